use Rattle.std.proofs.Common.{arith}
use Rattle.hsp_text.proofs.Numerals.{at_most_39}
use Rattle.hsp_text.proofs.wide.push_wide.Goals as goal

pub push_wide_number-requires : goal.push_wide_number-requires
push_wide_number-requires c =
    let d = at_most_39 c.args.number c.ranges.number.fits in let room = c.in_ok-reserve.ensures.ok in omega arith
