-- The arcs of each node in a chain, from the last of them back to the first: `ends` has the end of each arc by which it
-- is chained.
use Rattle.std.specs.Prelude.{◌≡◌, ◌≢◌, ℕ, ◌-◌, ◌<◌, ◌≤◌, List, length, slice_index}

-- the last of the first `upto` arcs whose end is the node v, counted from 1; 0 where there is none
pub record IsLast (ends : List ℕ) (v upto last : ℕ) : Type 0 where
  pub within : last ≤ upto
  pub own : 0 < last → slice_index ends (last - 1) ≡ v
  pub none_after : (k : ℕ) → last ≤ k → k < upto → slice_index ends k ≢ v

-- the last arc of each node, and for each arc the last one before it with the same end
pub record AreChains (nodes : ℕ) (ends lasts before : List ℕ) : Type 0 where
  pub lasts_many : length lasts ≡ nodes
  pub before_many : length before ≡ length ends
  pub last : (v : ℕ) → v < nodes → IsLast ends v (length ends) (slice_index lasts v)
  pub earlier : (k : ℕ) → k < length ends → IsLast ends (slice_index ends k) k (slice_index before k)
