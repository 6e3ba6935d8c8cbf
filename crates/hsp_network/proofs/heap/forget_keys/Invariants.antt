use Rattle.std.proofs.Common.{◌≡◌, ℕ, true, Some, None, slice_index_or, vec_len}
use Rattle.std.proofs.Math.ListN.{take}
use Rattle.std.specs.List.{list_any}
use Rattle.hsp_network.specs.Frontier.{is_pair}
use Rattle.hsp_network.proofs.heap.forget_keys.Given as goal

abbrev pub invariant-loop-node : goal.invariant-loop-node
invariant-loop-node l =
    (vec_len l.keys ≡ vec_len l.fn.keys)
    × ((v key : ℕ) → slice_index_or l.keys.items v None ≡ Some key → slice_index_or l.fn.keys.items v None ≡ Some key)
    × ((v key : ℕ) → list_any (is_pair v key) (take l.node-index l.pairs) ≡ true
    → slice_index_or l.keys.items v None ≡ None)
