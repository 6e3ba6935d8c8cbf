-- The part of a flow that goes through one end of its arcs.
use Rattle.std.specs.Prelude.{ℕ, List, length, slice_index}
use Rattle.hsp_network.specs.Sums.{only, sum_below}

-- the flow of the arcs whose end is v: `ends` has an end of each arc, `flows` the flow on it
unfoldable pub through : List ℕ → List ℕ → ℕ → ℕ
through ends flows v = sum_below (length flows) (λ k. only (slice_index ends k) v (slice_index flows k))
