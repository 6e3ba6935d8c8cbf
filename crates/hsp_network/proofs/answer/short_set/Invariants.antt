use Rattle.std.proofs.Common.{◌≡◌, ℕ, ◌+◌, ◌-◌, ◌<◌, false, length, nat_lt, slice_index, slice_index_or}
use Rattle.hsp_network.proofs.answer.short_set.Given as goal

abbrev pub invariant-loop-node : goal.invariant-loop-node
invariant-loop-node l =
    (length l.reached.items ≡ l.node - l.arcs.first)
    × ((i : ℕ) → i < l.node - l.arcs.first
    → slice_index_or l.reached.items i false
    ≡ nat_lt (slice_index l.tree.distance.now (l.arcs.first + i)) 18446744073709551615)
