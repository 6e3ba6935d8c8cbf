use Rattle.std.proofs.Common.{◌≡◌, ℕ, ◌<◌, ◌==◌, false, length, slice_index, slice_index_or}
use Rattle.std.specs.Prelude.{◌&&◌}
use Rattle.hsp_network.specs.Sums.{any_below}
use Rattle.hsp_network.proofs.accept_set.flag_reached.Given as goal

abbrev pub invariant-loop-arc : goal.invariant-loop-arc
invariant-loop-arc l = (j : ℕ) → j < length l.reached → slice_index_or l.reached j false ≡
    any_below l.arc
    (λ k.
    slice_index_or l.set (slice_index l.network.sources.now k) false && (slice_index l.network.servers.now k == j))
