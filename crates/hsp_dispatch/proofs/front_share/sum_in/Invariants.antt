use Rattle.std.proofs.Common.{◌≡◌, ◌+◌, drop}
use Rattle.hsp_dispatch.specs.Standings.{shares_sum}
use Rattle.hsp_dispatch.proofs.front_share.sum_in.Given as goal

-- the shares so far and those of the rest are all
abbrev pub invariant-loop-cell : goal.invariant-loop-cell
invariant-loop-cell l =
    l.sum + shares_sum l.front.fronts l.front.number (drop l.cell-index l.cells)
    ≡ shares_sum l.front.fronts l.front.number l.cells
