use Rattle.std.proofs.Common.{◌++◌, ap, arith, sym, ◌∙◌}
use Rattle.hsp_talk.specs.Talk.{cut}
use Rattle.hsp_talk.proofs.Rows.{all_after, all_begun, all_taken, line_cut, line_ends, within_cut}
use Rattle.hsp_talk.proofs.talking.take_lines.Goals as goal

pub take_line-requires : goal.take_line-requires
take_line-requires g c = rw (c.deref.ensures.value, c.in-Ok.ensures) (within_cut _)

pub returns-in-Err-clause-cut : goal.returns-in-Err-clause-cut
returns-in-Err-clause-cut g c =
    line_cut g.D.Responder.Takes g.D.Responder.Refuses c.args.responder.now c.lines.responder c.take_line.new.responder
    _ _ c.lines.line.items
    c.lines.rest.now _ c.lines.owed.items _ c.in-Err.refusal c.lines.invariant.so_far c.in-Some.place
    (sym c.in-Some.ensures.place) c.deref.result.now
    (c.deref.ensures.value ∙ c.in-Ok.ensures ∙ ap (λ o. cut (c.lines.line.items ++ o)) c.split_at.ensures.front)
    c.in-Err.ensures.cut

pub lines-preserved : goal.lines-preserved
lines-preserved g c = record {
  so_far =
      line_ends g.D.Responder.Takes c.args.responder.now c.lines.responder _ _ c.lines.line.items c.lines.rest.now _
      c.lines.owed.items
      c.lines.invariant.so_far c.in-Some.place (sym c.in-Some.ensures.place)
      c.deref.result.now
      (c.deref.ensures.value ∙ c.in-Ok.ensures ∙ ap (λ o. cut (c.lines.line.items ++ o)) c.split_at.ensures.front)
      c.take_line.new.responder c.take_line.new.owed.items _ _
      c.in_default-take_line.ensures.taken c.clear.ensures.items
      (all_after c.lines.rest.now c.split_at.result.1.now c.in-Some.place c.split_at.ensures.back);
  short = rw c.clear.ensures.items (omega arith);
}

pub returns-in-Ok-lengthen-clause-taken : goal.returns-in-Ok-lengthen-clause-taken
returns-in-Ok-lengthen-clause-taken g c =
    all_taken g.D.Responder.Takes c.args.responder.now c.lines.responder _ _ c.lines.line.items c.lines.rest.now _
    c.lines.owed.items
    c.lines.invariant.so_far (sym c.end_of_line.ensures.place ∙ c.in_default.is)

pub returns-in-Ok-lengthen-clause-begun : goal.returns-in-Ok-lengthen-clause-begun
returns-in-Ok-lengthen-clause-begun g c =
    c.in-Ok-lengthen.ensures
    ∙ all_begun g.D.Responder.Takes c.args.responder.now c.lines.responder _ _ c.lines.line.items c.lines.rest.now _
    c.lines.owed.items c.lines.invariant.so_far (sym c.end_of_line.ensures.place ∙ c.in_default.is)
