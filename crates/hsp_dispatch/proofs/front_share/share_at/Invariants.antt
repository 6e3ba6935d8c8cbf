use Rattle.std.proofs.Common.{◌≡◌, drop}
use Rattle.hsp_dispatch.specs.Shares.{left_at}
use Rattle.hsp_dispatch.specs.Standings.{shares_in}
use Rattle.hsp_dispatch.proofs.front_share.share_at.Given as goal

-- the front has no share in an earlier cell of the site
abbrev pub invariant-loop-cell : goal.invariant-loop-cell
invariant-loop-cell l =
    left_at (shares_in l.front.fronts l.front.number (drop l.cell-index l.cells)) l.site
    ≡ left_at (shares_in l.front.fronts l.front.number l.cells) l.site
