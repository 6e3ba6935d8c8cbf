use Rattle.std.proofs.Common.{◌∙◌, sym, refl}
use Rattle.csv.specs.Records.{fields_of}
use Rattle.hsp_dispatch.proofs.Desks.{event_more, if_both}
use Rattle.hsp_log.proofs.RowFields.{spells_event}
use Rattle.hsp_dispatch.proofs.events.FrontsDesk.answer.Goals as goal

pub returns-clause-answers : goal.returns-clause-answers
returns-clause-answers c =
    if_both c.choose.result c.choose.ensures.takes c.choose.ensures.among
    (λ given takes among. event_more c.args.self.now c.choose.new.self c.args.place.form (fields_of c.args.record.now)
    (record { front = c.in-Ok.front; entry = _ }) given
    (spells_event _ _ _ _ _ c.in-Some.ensures.found (sym c.read_whole.ensures ∙ c.in-Ok.is) refl refl takes.handle)
    takes among)
