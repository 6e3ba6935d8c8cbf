use Rattle.std.proofs.Common.{◌≡◌, ℕ, ◌<◌, ◌≤◌, None, Some, slice_index_or, vec_len, MatchOption}
use Rattle.hsp_network.proofs.scan.ScanFrontierFrontier.take_least.Given as goal

abbrev pub invariant-loop-node : goal.invariant-loop-node
invariant-loop-node l =
    (l.self.keys.items ≡ l.fn.self.keys.items) × (vec_len l.self.keys ≡ vec_len l.fn.self.keys)
    × MatchOption l.least ((v : ℕ) → v < l.node → slice_index_or l.self.keys.items v None ≡ None)
    (λ e. (e.0 < vec_len l.self.keys) × (slice_index_or l.self.keys.items e.0 None ≡ Some e.1)
    × ((v d : ℕ) → v < l.node → slice_index_or l.self.keys.items v None ≡ Some d → e.1 ≤ d))
