use Rattle.std.proofs.Common.{◌∙◌, inl, inr, sym}
use Rattle.hsp_talk.specs.declared.stop.Stop.TheVariants as stop
use Rattle.hsp_stream.proofs.PlaceTalks.{all_answered, by_fault, has_stopped, no_header}
use Rattle.hsp_stream.proofs.places.places_run.Goals as goal

pub returns-then-has_header-clause-whole : goal.returns-then-has_header-clause-whole
returns-then-has_header-clause-whole g c = (
  c.in_ok-sites.sites,
  c.in_ok-sites.ensures,
  all_answered c.in_ok-sites.sites c.new-responder.result c.talk.new.responder c.new-responder.ensures _ _
      (sym c.has_header.ensures ∙ c.if-has_header.true) c.in-Ok.ensures.whole,
)

pub returns-in-Ok-clause-stops : goal.returns-in-Ok-clause-stops
returns-in-Ok-clause-stops g c = (
  c.in_ok-sites.sites,
  c.in_ok-sites.ensures,
  no_header c.in_ok-sites.sites c.new-responder.result c.talk.new.responder c.new-responder.ensures _ _
      (sym c.has_header.ensures ∙ c.if-has_header.false) c.in-Ok.ensures.whole,
)

pub returns-in-Err-ReadFailed-clause-stops : goal.returns-in-Err-ReadFailed-clause-stops
returns-in-Err-ReadFailed-clause-stops g c = (
  c.in_ok-sites.sites,
  c.in_ok-sites.ensures,
  has_stopped c.in_ok-sites.sites c.new-responder.result c.talk.new.responder c.new-responder.ensures _ _
      c.in-Err-ReadFailed.field-0
      stop.ReadFailed _ c.in-Err-ReadFailed.field-0-is (λ events so. inl so) c.in-Err-ReadFailed.ensures.stops,
)

pub returns-in-Err-WriteFailed-clause-stops : goal.returns-in-Err-WriteFailed-clause-stops
returns-in-Err-WriteFailed-clause-stops g c = (
  c.in_ok-sites.sites,
  c.in_ok-sites.ensures,
  has_stopped c.in_ok-sites.sites c.new-responder.result c.talk.new.responder c.new-responder.ensures _ _
      c.in-Err-WriteFailed.field-0
      stop.WriteFailed _ c.in-Err-WriteFailed.field-0-is (λ events so. inl so) c.in-Err-WriteFailed.ensures.stops,
)

pub returns-in-Err-OutOfMemory-clause-stops : goal.returns-in-Err-OutOfMemory-clause-stops
returns-in-Err-OutOfMemory-clause-stops g c =
    inr (
      c.in_ok-sites.sites,
      c.in_ok-sites.ensures,
      has_stopped c.in_ok-sites.sites c.new-responder.result c.talk.new.responder c.new-responder.ensures _ _
          c.in-Err-OutOfMemory.field-0 stop.OutOfMemory _ c.in-Err-OutOfMemory.field-0-is (λ events so. so)
          c.in-Err-OutOfMemory.ensures.stops,
    )

pub returns-clause-stops : goal.returns-clause-stops
returns-clause-stops g c = (
  c.in_ok-sites.sites,
  c.in_ok-sites.ensures,
  has_stopped c.in_ok-sites.sites c.new-responder.result c.talk.new.responder c.new-responder.ensures _ _
      c.in-Err-Fault.field-0
      (stop.Fault c.in-Err-Fault.fault) _ c.in-Err-Fault.field-0-is (by_fault c.in_ok-sites.sites c.in-Err-Fault.fault)
      c.in-Err-Fault.ensures.stops,
)
