use Rattle.std.proofs.Common.{sym, subst}
use Rattle.hsp_cert.specs.Reading.{certificates}
use Rattle.hsp_cert.specs.Steps.{step_line}
use Rattle.hsp_cert.proofs.LineReading.{Progress, adds, after_end, bad_line, begins, ended_early, whole, whole_alone}
use Rattle.hsp_cert.proofs.Taking.{reader, refused, takes, took}
use Rattle.hsp_cert.proofs.reading.read_lines.Goals as goal

pub lines-init : goal.lines-init
lines-init c =
    subst (Progress certificates reader takes c.args.text.now c.args.text.now 0) (sym c.new-draft.ensures)
    (begins certificates reader takes c.args.text.now)

pub returns-in_default : goal.returns-in_default
returns-in_default c =
    ended_early certificates reader takes c.args.text.now c.lines.rest.now c.lines.lines c.lines.draft
    c.lines.invariant (sym c.lines-test.ensures) c.in_default.ensures

pub returns-then-not-added : goal.returns-then-not-added
returns-then-not-added c =
    bad_line certificates reader takes c.args.text.now c.lines.rest.now c.in-Some.line.now c.in-Some.after.now
    c.lines.lines c.lines.draft c.lines.invariant (sym c.lines-test.ensures) c.in-Some.ensures.0 c.in-Some.ensures.1
    (refused (step_line c.lines.draft c.in-Some.line.now) c.add_line.new.draft
    (rw c.if-not-added.true at c.in-Ok.ensures))

pub lines-preserved : goal.lines-preserved
lines-preserved c =
    adds certificates reader takes c.args.text.now c.lines.rest.now c.in-Some.line.now c.in-Some.after.now
    c.lines.lines c.lines.draft c.add_line.new.draft c.lines.invariant (sym c.lines-test.ensures) c.in-Some.ensures.0
    (took (step_line c.lines.draft c.in-Some.line.now) c.add_line.new.draft
    (rw c.if-not-added.false at c.in-Ok.ensures))

pub returns-then-not-is_empty : goal.returns-then-not-is_empty
returns-then-not-is_empty c =
    after_end certificates reader takes c.args.text.now c.lines.rest.now c.lines.lines c.lines.draft c.lines.invariant
    (sym c.lines-test.ensures) (sym c.if-not-is_empty.ensures)

pub finished-requires : goal.finished-requires
finished-requires c =
    (whole certificates reader takes c.args.text.now c.lines.rest.now c.lines.lines c.lines.draft c.lines.invariant
    (sym c.lines-test.ensures)).0

pub returns : goal.returns
returns c =
    whole_alone certificates reader takes c.args.text.now c.lines.rest.now c.lines.lines c.lines.draft
    c.finished.result c.lines.invariant (sym c.lines-test.ensures) (sym c.if-not-is_empty.ensures) c.finished.ensures
