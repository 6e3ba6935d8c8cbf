use Rattle.std.proofs.Common.{arith}
use Rattle.hsp_text.proofs.Numerals.{at_most_39, last_digit_wide}
use Rattle.hsp_text.proofs.writing.+digit_count.Goals as goal

pub overflow_add-result : goal.overflow_add-result
overflow_add-result t c =
    let s = last_digit_wide c.args.number c.if-number-lt10.false c.ranges.number.fits in
    let m = at_most_39 c.args.number c.ranges.number.fits in
    omega arith

pub returns : goal.returns
returns t c = let s = last_digit_wide c.args.number c.if-number-lt10.false c.ranges.number.fits in omega arith
