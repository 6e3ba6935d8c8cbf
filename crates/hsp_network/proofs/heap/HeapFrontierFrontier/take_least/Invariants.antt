use Rattle.std.proofs.Common.{◌≡◌, vec_len}
use Rattle.std.specs.BinaryHeap.{heap_len}
use Rattle.hsp_network.proofs.heap.HeapFrontierFrontier.take_least.Given as goal

abbrev pub invariant-loop-key : goal.invariant-loop-key
invariant-loop-key l = (l.self.keys.items ≡ l.fn.self.keys.items) × (vec_len l.self.keys ≡ vec_len l.fn.self.keys)

abbrev pub decreases-loop-key : goal.decreases-loop-key
decreases-loop-key l = heap_len l.self.pairs
