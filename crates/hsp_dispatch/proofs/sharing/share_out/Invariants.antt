use Rattle.std.proofs.Common.{take}
use Rattle.hsp_dispatch.proofs.SharedOut.{AreSharesOf}
use Rattle.hsp_dispatch.proofs.sharing.share_out.Given as goal

-- each row has the cells of the uses so far
abbrev pub invariant-loop-one : goal.invariant-loop-one
invariant-loop-one l = AreSharesOf l.instance (take l.one-index l.uses) l.shares.items
