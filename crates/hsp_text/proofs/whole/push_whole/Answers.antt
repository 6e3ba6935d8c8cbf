use Rattle.std.proofs.Common.{arith}
use Rattle.hsp_text.proofs.Numerals.{at_most_twenty}
use Rattle.hsp_text.proofs.whole.push_whole.Goals as goal

pub push_digits-requires : goal.push_digits-requires
push_digits-requires c =
    let d = at_most_twenty c.args.number c.ranges.number.fits in let room = c.in_ok-reserve.ensures.ok in omega arith

pub returns-clause-len : goal.returns-clause-len
returns-clause-len c = let d = at_most_twenty c.args.number c.ranges.number.fits in omega arith
