use Rattle.std.proofs.Common.{◌≡◌, ℕ, ◌+◌, ◌-◌, ◌<◌, ◌≤◌, length, slice_index}
use Rattle.hsp_network.specs.Search.{top}
use Rattle.hsp_network.proofs.update_potentials.update_potentials.Given as goal

abbrev pub invariant-loop-node : goal.invariant-loop-node
invariant-loop-node l =
    (length l.price ≡ length l.fn.price)
    × (length l.distance ≡ length l.fn.distance)
    × ((v : ℕ) → v < l.node → slice_index l.distance v ≡ top)
    × ((v : ℕ) → v < l.node
    → slice_index l.price v ≡ slice_index l.fn.price v + (l.reach - slice_index l.fn.distance v))
    × ((v : ℕ) → l.node ≤ v → slice_index l.distance v ≡ slice_index l.fn.distance v)
    × ((v : ℕ) → l.node ≤ v → slice_index l.price v ≡ slice_index l.fn.price v)
