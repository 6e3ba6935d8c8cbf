use Rattle.std.proofs.Common.{◌≡◌, drop}
use Rattle.hsp_dispatch.specs.Shares.{left_at}
use Rattle.hsp_dispatch.proofs.share.RowShare.left.Given as goal

-- what is left at the site is what the rest of the cells has
abbrev pub invariant-loop-cell : goal.invariant-loop-cell
invariant-loop-cell l = left_at (drop l.cell-index l.cell-items) l.site ≡ left_at l.cell-items l.site
