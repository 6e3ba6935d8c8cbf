use Rattle.std.proofs.Common.{arith, sym}
use Rattle.hsp_text.proofs.Numerals.{passes_limit_at}
use Rattle.hsp_text.proofs.whole.read_whole.Goals as goal

pub returns-then-longer-from : goal.returns-then-longer-from
returns-then-longer-from c =
    let so_far = c.loop-digit.invariant in
    sym
    (passes_limit_at c.args.max c.loop-digit.number c.loop-digit.digit-index c.is_whole.result c.args.text.now
    c.is_whole.ensures c.if-not-is_whole.false c.loop-digit-test.true so_far.digits so_far.told (omega arith))
