use Rattle.std.proofs.Common.{arith, rules, ap, length}
use Rattle.hsp_names.proofs.Splitting.{first_piece, no_place, one_piece}
use Rattle.hsp_names.specs.Handle.{is_dot}
use Rattle.hsp_names.proofs.segments.SegmentsIterator.next.Goals as goal

pub returns-in-Some-clause-steps : goal.returns-in-Some-clause-steps
returns-in-Some-clause-steps c = rw c.in_ok-text.was (first_piece c.in_ok-text.text.now c.in-Some.dot c.in-Some.ensures)

pub returns-in-Some-clause-goes : goal.returns-in-Some-clause-goes
returns-in-Some-clause-goes c =
    let fewer = ap length (first_piece c.in_ok-text.text.now c.in-Some.dot c.in-Some.ensures) in
    record { on = λ _. (tt, search rules, rw c.in_ok-text.was (omega (arith, fewer))); keeps = tt; rests = λ _. tt }

pub returns-in-None-clause-steps : goal.returns-in-None-clause-steps
returns-in-None-clause-steps c =
    rw c.in_ok-text.was
    (one_piece is_dot c.in_ok-text.text.now (no_place is_dot c.in_ok-text.text.now c.in-None.ensures))

pub returns-in-None-clause-goes : goal.returns-in-None-clause-goes
returns-in-None-clause-goes c =
    let one =
    ap length (one_piece is_dot c.in_ok-text.text.now (no_place is_dot c.in_ok-text.text.now c.in-None.ensures)) in
    record { on = λ _. (tt, search rules, rw c.in_ok-text.was (omega (arith, one))); keeps = tt; rests = λ _. tt }
