use Rattle.std.proofs.Common.{sym, subst}
use Rattle.hsp_price_text.specs.Drafts.{reader}
use Rattle.hsp_price_text.specs.Text.{prices}
use Rattle.hsp_cert.proofs.LineReading.{Progress, adds, after_end, bad_line, begins, ended_early, refused, took, whole}
use Rattle.hsp_cert.proofs.LineReading.{whole_alone}
use Rattle.hsp_price_text.proofs.Whole.{takes}
use Rattle.hsp_price_text.proofs.reading.read_lines.Goals as goal

pub lines-init : goal.lines-init
lines-init c =
    subst (Progress prices reader takes c.args.text.now c.args.text.now 0) (sym c.new-draft.ensures)
    (begins prices reader takes c.args.text.now)

pub returns-in_default : goal.returns-in_default
returns-in_default c =
    ended_early prices reader takes c.args.text.now c.lines.rest.now c.lines.lines c.lines.draft c.lines.invariant
    (sym c.lines-test.ensures) c.in_default.ensures

pub returns-then-not-taken : goal.returns-then-not-taken
returns-then-not-taken c =
    bad_line prices reader takes c.args.text.now c.lines.rest.now c.in-Some.line.now c.in-Some.after.now c.lines.lines
    c.lines.draft c.lines.invariant (sym c.lines-test.ensures) c.in-Some.ensures.0 c.in-Some.ensures.1
    (refused c.lines.draft (reader.step c.lines.draft c.in-Some.line.now) c.take.new.self
    (rw c.if-not-taken.true at c.in-Ok.ensures))

pub lines-preserved : goal.lines-preserved
lines-preserved c =
    adds prices reader takes c.args.text.now c.lines.rest.now c.in-Some.line.now c.in-Some.after.now c.lines.lines
    c.lines.draft c.take.new.self c.lines.invariant (sym c.lines-test.ensures) c.in-Some.ensures.0
    (took c.lines.draft (reader.step c.lines.draft c.in-Some.line.now) c.take.new.self
    (rw c.if-not-taken.false at c.in-Ok.ensures))

pub returns-then-not-is_empty : goal.returns-then-not-is_empty
returns-then-not-is_empty c =
    after_end prices reader takes c.args.text.now c.lines.rest.now c.lines.lines c.lines.draft c.lines.invariant
    (sym c.lines-test.ensures) (sym c.if-not-is_empty.ensures)

pub finished-requires : goal.finished-requires
finished-requires c =
    (whole prices reader takes c.args.text.now c.lines.rest.now c.lines.lines c.lines.draft c.lines.invariant
    (sym c.lines-test.ensures)).0

pub returns : goal.returns
returns c =
    whole_alone prices reader takes c.args.text.now c.lines.rest.now c.lines.lines c.lines.draft c.finished.result
    c.lines.invariant (sym c.lines-test.ensures) (sym c.if-not-is_empty.ensures) c.finished.ensures
