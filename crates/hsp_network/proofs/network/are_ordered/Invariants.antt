use Rattle.std.proofs.Common.{ℕ, ◌<◌, ◌≤◌, slice_index}
use Rattle.hsp_network.proofs.network.are_ordered.Given as goal

abbrev pub invariant-loop-place : goal.invariant-loop-place
invariant-loop-place l = (j k : ℕ) → j ≤ k → k < l.place → slice_index l.ends j ≤ slice_index l.ends k
