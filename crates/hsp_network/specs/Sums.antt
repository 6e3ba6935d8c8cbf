-- What flows on arcs, added up by their ends.
use Rattle.std.specs.Prelude.{◌≡◌, ℕ, ◌<◌, List, length, slice_index}
pub use Rattle.hsp_transport.specs.Lists.{AreHosted, AreZero, hosted, is_on}
pub use Rattle.hsp_transport.specs.Sums.{any_below, only, sum_below}

-- what flows on the first n arcs whose end is v: `ends` has an end of each arc, `flows` the flow on it
abbrev pub carried : List ℕ → List ℕ → ℕ → ℕ → ℕ
carried ends flows n v = sum_below n (λ k. only (slice_index ends k) v (slice_index flows k))

-- each sum is what all arcs with that end carry
abbrev pub AreCarried : List ℕ → List ℕ → List ℕ → Type 0
AreCarried ends flows sums = (v : ℕ) → v < length sums → slice_index sums v ≡ carried ends flows (length ends) v
