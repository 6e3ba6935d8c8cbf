use Rattle.std.proofs.Common.{◌≡◌, ◌≢◌, ◌≤◌, ◌+◌, ◌-◌, drop, length}
use Rattle.hsp_dispatch.specs.Standings.{shares_sum}
use Rattle.hsp_dispatch.proofs.front_share.stand_with.Given as goal

-- what the front has left here and the shares behind are all that it has left
abbrev pub invariant-cells : goal.invariant-cells
invariant-cells l =
    (l.number ≤ length l.cells - 1) × (l.left ≢ 0 → l.here ≢ 0)
    × (l.here + shares_sum l.front.fronts l.front.number (drop (l.number + 1) l.cells) ≡ l.left)

abbrev pub decreases-cells : goal.decreases-cells
decreases-cells l = l.number
