use Rattle.std.proofs.Common.{◌≡◌, ℕ, ◌<◌, length, slice_index}
use Rattle.hsp_network.specs.Index.{IsLast}
use Rattle.hsp_network.proofs.index.chain_arcs.Given as goal

abbrev pub invariant-loop-arc : goal.invariant-loop-arc
invariant-loop-arc l =
    (length l.lasts.items ≡ l.nodes)
    × (length l.before.items ≡ length l.ends)
    × ((v : ℕ) → v < l.nodes → IsLast l.ends v l.arc (slice_index l.lasts.items v))
    × ((k : ℕ) → k < l.arc → IsLast l.ends (slice_index l.ends k) k (slice_index l.before.items k))
