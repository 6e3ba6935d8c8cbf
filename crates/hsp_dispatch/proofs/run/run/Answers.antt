use Rattle.std.proofs.KnownBytes.{Appends-nil}
use Rattle.std.proofs.lemmas.Result.{err_from_is_err_and}
use Rattle.hsp_dispatch.specs.Runs.{desk_of}
use Rattle.hsp_dispatch.proofs.InTurn.{all_left}
use Rattle.hsp_dispatch.proofs.Running.{memory_stops}
use Rattle.hsp_log.specs.declared.form.Form.TheVariants.{Handles}
use Rattle.hsp_dispatch.proofs.run.run.Goals as goal

pub returns-in_err-for_instance-clause-stops : goal.returns-in_err-for_instance-clause-stops
returns-in_err-for_instance-clause-stops g c =
    let told = err_from_is_err_and c.from_residual.result c.from_residual.ensures.1 in
    rw (told.1, told.2)
    (memory_stops (desk_of g.D.Desk.header (g.D.Desk.Answers c.args.desk.now c.args.desk.now) g.D.Desk.Refuses) _
    (c.served.ensures.begins Handles) (Appends-nil _))

pub returns-clause-stops : goal.returns-clause-stops
returns-clause-stops g c =
    rw
    (all_left g.R.Read.remaining (g.R.Read.remaining c.args.reader) c.read_records-records.result
    c.read_records-records.ensures.known c.read_records-records.ensures.records
    c.read_records-records.ensures.unknown) at c.run_rows.ensures.stops
