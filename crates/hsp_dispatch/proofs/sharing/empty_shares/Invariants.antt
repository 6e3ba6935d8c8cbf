use Rattle.std.proofs.Common.{◌≡◌, [], replicate}
use Rattle.hsp_dispatch.proofs.sharing.empty_shares.Given as goal

abbrev pub invariant-loop-row : goal.invariant-loop-row
invariant-loop-row l = l.shares.items ≡ replicate l._row []
