use Rattle.std.proofs.Common.{◌≡◌, ◌-◌, arith}
use Rattle.hsp_network.proofs.tables.numbers_from_one.Goals as goal

pub returns : goal.returns
returns c =
    let done : c.loop-number.number - 1 ≡ c.args.end - 1 =
    omega (arith, c.loop-number-test.false, c.loop-number.auto.number-end, c.requires) in
    rw done at c.loop-number.invariant
