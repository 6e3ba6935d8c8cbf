use Rattle.std.proofs.Common.{◌≡◌, take}
use Rattle.hsp_dispatch.proofs.fronts.rows_by.Given as goal

-- the rows so far have the cells of their shares
abbrev pub invariant-loop-share : goal.invariant-loop-share
invariant-loop-share l = l.rows.items ≡ take l.share-index l.share-items
