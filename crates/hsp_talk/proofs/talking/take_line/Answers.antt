use Rattle.std.proofs.Common.{◌++◌, ap, sym, ◌∙◌, length}
use Rattle.hsp_talk.proofs.Rows.{cut_here, not_none, one_owed, refused_by}
use Rattle.hsp_talk.specs.declared.stop.Refusal.TheVariants.{OutOfMemory}
use Rattle.hsp_talk.proofs.talking.take_line.Goals as goal

pub returns-in-Err-clause-cut : goal.returns-in-Err-clause-cut
returns-in-Err-clause-cut g c =
    let some = not_none (length c.args.line.now) (sym c.is_empty.ensures ∙ c.if-is_empty.false) in
    cut_here g.D.Responder.Takes g.D.Responder.Refuses c.args.responder.now c.take.new.self _ c.args.owed.now.items
    c.in-Err.refusal
    (refused_by g.D.Responder.Refuses c.args.responder.now c.take.new.self c.args.line.now c.in-Err.refusal some
    c.requires
    c.in-Err.ensures.refuses)

pub returns-in-Ok-clause-taken : goal.returns-in-Ok-clause-taken
returns-in-Ok-clause-taken g c =
    let some = not_none (length c.args.line.now) (sym c.is_empty.ensures ∙ c.if-is_empty.false) in
    one_owed g.D.Responder.Takes c.args.responder.now c.take.new.self c.args.line.now c.args.owed.now.items
    c.take.new.answer.items c.extend_from_slice.new.self.items some c.requires c.in_default.ensures.takes
    (c.in-Ok.ensures.items ∙ ap (λ a. c.args.owed.now.items ++ a) c.deref.ensures.value)

pub returns-in-Err-extend_from_slice-clause-cut : goal.returns-in-Err-extend_from_slice-clause-cut
returns-in-Err-extend_from_slice-clause-cut g c =
    rw c.in-Err-extend_from_slice.ensures.items
    (cut_here g.D.Responder.Takes g.D.Responder.Refuses c.args.responder.now c.take.new.self _ c.args.owed.now.items
    OutOfMemory
    tt)
