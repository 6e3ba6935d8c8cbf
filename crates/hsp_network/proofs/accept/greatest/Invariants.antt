use Rattle.std.proofs.Common.{◌≡◌, ℕ, ◌<◌, ◌≤◌, ◌⊎◌, slice_index}
use Rattle.hsp_network.proofs.accept.greatest.Given as goal

abbrev pub invariant-loop-cost : goal.invariant-loop-cost
invariant-loop-cost l =
    ((k : ℕ) → k < l.cost-index → slice_index l.costs k ≤ l.most)
    × ((l.most ≡ 0) ⊎ ((k : ℕ) × (k < l.cost-index) × (slice_index l.costs k ≡ l.most)))
