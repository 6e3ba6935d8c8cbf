use Rattle.std.proofs.Common.{◌≡◌, ℕ, ◌<◌, slice_index}
use Rattle.hsp_check.proofs.conditions.idle_are_free.Given as goal

abbrev pub invariant-loop-place : goal.invariant-loop-place
invariant-loop-place l =
    (j : ℕ) → j < l.place → slice_index l.sums j < slice_index l.bounds j → slice_index l.prices j ≡ 0
