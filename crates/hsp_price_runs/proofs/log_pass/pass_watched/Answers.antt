use Rattle.std.proofs.Common.{◌≡◌, ◌⊎◌, inl, inr, Err, List, []}
use Rattle.std.specs.Prelude.{Result}
use Rattle.std.proofs.lemmas.Result.{IfErr-weaker, err_from_is_err_and, on_ok_weaker}
use Rattle.csv.specs.Records.{fields_of}
use Rattle.hsp_instance.specs.Instance.{Row}
use Rattle.hsp_log.specs.LogRows.{OfLeft, OfLog}
use Rattle.hsp_inputs.specs.Stopping.{MayStopReading}
use Rattle.hsp_log.specs.Watching.{watched_left}
use Rattle.hsp_inputs.specs.declared.stream_fault.StreamFault.{StreamFault}
use Rattle.hsp_price_runs.specs.LogRows.{log_rows, rows_with}
use Rattle.hsp_price_runs.specs.Passing.{TakesRows}
use Rattle.hsp_price_runs.proofs.LogReading.{bad_header, behind_header}
use Rattle.hsp_price_runs.proofs.log_pass.pass_watched.Goals as goal

pub returns-in_err-form-clause-fault : goal.returns-in_err-form-clause-fault
returns-in_err-form-clause-fault g c =
    let told = err_from_is_err_and c.from_residual-in_err-form.result c.from_residual-in_err-form.ensures.1 in
    let reader = c.watch_records-reader in
    rw (told.1, told.2)
    (inr
    (bad_header (watched_left g.R.Read.remaining) (g.R.Read.remaining c.args.log) reader.result reader.ensures.known
    reader.ensures.records c.take_watched.new.reader
    (fields_of c.take_watched.new.record) c.in_err-form.field-0.0
    (rw c.if-not-branch.false at c.in_ok-take_watched.ensures.takes) c.in_err-form.ensures))

pub returns-clause-passed : goal.returns-clause-passed
returns-clause-passed g c =
    let reader = c.watch_records-reader in
    on_ok_weaker c.pass_rows.result
    (behind_header (watched_left g.R.Read.remaining) (g.R.Read.remaining c.args.log) reader.result reader.ensures.known
    reader.ensures.records
    (λ (all : Result (List Row) StreamFault).
    TakesRows g.T.RowTaker.HasTaken all c.args.taker.now c.pass_rows.new.taker)
    c.take_watched.new.reader
    (fields_of c.take_watched.new.record) c.in_ok-form.form
    (rw c.if-not-branch.false at c.in_ok-take_watched.ensures.takes) c.in_ok-form.ensures)
    c.pass_rows.ensures.passed

pub returns-clause-fault : goal.returns-clause-fault
returns-clause-fault g c =
    let reader = c.watch_records-reader in
    let log = g.R.Read.remaining c.args.log in
    IfErr-weaker c.pass_rows.result
    (λ (fault : StreamFault). MayStopReading g.K.Watch.may_fail fault
    ⊎ OfLeft (watched_left g.R.Read.remaining) c.take_watched.new.reader
    (λ records. rows_with c.in_ok-form.form 0 [] records ≡ Err fault))
    (λ (fault : StreamFault). MayStopReading g.K.Watch.may_fail fault ⊎ OfLog log
    (λ records. log_rows records ≡ Err fault))
    (λ fault told. elim told [
      | inl read ↦ inl read
      | inr bad ↦
          inr
          (behind_header (watched_left g.R.Read.remaining) log reader.result reader.ensures.known reader.ensures.records
          (λ (all : Result (List Row) StreamFault). all ≡ Err fault) c.take_watched.new.reader
          (fields_of c.take_watched.new.record) c.in_ok-form.form
          (rw c.if-not-branch.false at c.in_ok-take_watched.ensures.takes) c.in_ok-form.ensures bad)
    ]) c.pass_rows.ensures.fault
