use Rattle.std.proofs.Common.{ℕ, ◌<◌, slice_index}
use Rattle.hsp_network.proofs.network.are_below.Given as goal

abbrev pub invariant-loop-place : goal.invariant-loop-place
invariant-loop-place l = (k : ℕ) → k < l.place → slice_index l.ends k < l.bound
