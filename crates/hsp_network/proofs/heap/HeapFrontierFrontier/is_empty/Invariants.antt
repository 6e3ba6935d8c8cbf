use Rattle.std.proofs.Common.{◌≡◌, ℕ, ◌<◌, None, slice_index_or}
use Rattle.hsp_network.proofs.heap.HeapFrontierFrontier.is_empty.Given as goal

abbrev pub invariant-loop-key : goal.invariant-loop-key
invariant-loop-key l = (v : ℕ) → v < l.key-index → slice_index_or l.self.keys.items v None ≡ None
