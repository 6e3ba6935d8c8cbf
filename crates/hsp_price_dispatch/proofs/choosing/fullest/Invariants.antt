use Rattle.std.proofs.Common.{◌≡◌, ◌≤◌, drop, length}
use Rattle.hsp_price_dispatch.specs.Choosing.{fullest, places_from}
use Rattle.hsp_price_dispatch.proofs.choosing.fullest.Given as goal

-- the best so far is that of the places from here on
abbrev pub invariant-places : goal.invariant-places
invariant-places l = record {
  inside : l.at ≤ length l.arcs;
  best : l.best ≡ fullest l.holding (drop l.at (places_from l.first l.arcs (drop l.first l.holding.cells)));
}

abbrev pub decreases-places : goal.decreases-places
decreases-places l = l.at
