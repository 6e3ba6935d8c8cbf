use Rattle.std.proofs.Common.{◌≡◌, ℕ, ◌-◌, ◌<◌, ◌≤◌, length, slice_index}
use Rattle.hsp_network.proofs.initial_potentials.least_cost.Given as goal

abbrev pub invariant-loop-last : goal.invariant-loop-last
invariant-loop-last l =
    ((k : ℕ) → l.last ≤ k → k < length l.arcs.tails.now → slice_index l.arcs.tails.now k ≡ l.node
    → l.least ≤ slice_index l.arcs.costs.now k)
    × ((k : ℕ) × (k < length l.arcs.tails.now) × (slice_index l.arcs.tails.now k ≡ l.node)
    × (slice_index l.arcs.costs.now k ≡ l.least))
    × (l.last ≤ length l.arcs.tails.now)
    × (0 < l.last → slice_index l.arcs.tails.now (l.last - 1) ≡ l.node)

abbrev pub decreases-loop-last : goal.decreases-loop-last
decreases-loop-last l = l.last
