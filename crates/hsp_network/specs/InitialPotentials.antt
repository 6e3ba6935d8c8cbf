-- The prices before any flow.
use Rattle.std.specs.Prelude.{◌≡◌, ◌≢◌, ◌⊎◌, ℕ, ◌<◌, ◌≤◌, List, length, slice_index}

-- no arc leaves the node v
abbrev pub IsLeftByNone : List ℕ → ℕ → Type 0
IsLeftByNone tails v = (k : ℕ) → k < length tails → slice_index tails k ≢ v

-- the least of the costs of the arcs that leave the node v, 0 where none does
pub record LeastCost (tails costs : List ℕ) (v least : ℕ) : Type 0 where
  pub below : (k : ℕ) → k < length tails → slice_index tails k ≡ v → least ≤ slice_index costs k
  pub attained : (IsLeftByNone tails v × (least ≡ 0))
      ⊎ ((k : ℕ) × (k < length tails) × (slice_index tails k ≡ v) × (slice_index costs k ≡ least))

-- each node's price is the least cost of an arc that leaves it
pub record AreInitialPotentials (nodes : ℕ) (tails costs price : List ℕ) : Type 0 where
  pub many : length price ≡ nodes
  pub each : (v : ℕ) → v < nodes → LeastCost tails costs v (slice_index price v)
