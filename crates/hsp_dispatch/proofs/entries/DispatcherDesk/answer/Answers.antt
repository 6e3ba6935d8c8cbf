use Rattle.std.proofs.Common.{◌∙◌, refl}
use Rattle.csv.specs.Records.{fields_of}
use Rattle.hsp_dispatch.proofs.Desks.{entry_more, if_both}
use Rattle.hsp_log.proofs.RowFields.{spells}
use Rattle.hsp_dispatch.proofs.entries.DispatcherDesk.answer.Goals as goal

pub returns-in-Handles-clause-answers : goal.returns-in-Handles-clause-answers
returns-in-Handles-clause-answers c =
    if_both c.choose.result c.choose.ensures.takes c.choose.ensures.among
    (λ given takes among.
    entry_more c.args.self.now c.choose.new.dispatcher c.args.place.form (fields_of c.args.record.now) _ given
    (spells c.args.place.form _ _ _ _ c.in-Some.ensures.found refl (rw c.in-Handles.is refl) takes.handle) takes among)

pub returns-in-Some-request_in-clause-answers : goal.returns-in-Some-request_in-clause-answers
returns-in-Some-request_in-clause-answers c =
    if_both c.choose-in-Bodies.result c.choose-in-Bodies.ensures.takes c.choose-in-Bodies.ensures.among
    (λ given takes among.
    entry_more c.args.self.now c.choose-in-Bodies.new.dispatcher c.args.place.form (fields_of c.args.record.now) _
    given
    (spells c.args.place.form _ _ _ _ c.in-Some.ensures.found refl
    (rw c.in-Bodies.is (
      _,
      c.in-Some-request_in.ensures.0,
      rw c.in-Some-2.is at c.in_ok-octets-in-Bodies.ensures,
      rw c.deref.ensures.value at c.in-Some-request_in.ensures.1,
      c.handle-handle.ensures ∙ c.in-Some-request_in.ensures.2,
    ))
    takes.handle) takes among)
