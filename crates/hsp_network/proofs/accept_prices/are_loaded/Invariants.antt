use Rattle.std.proofs.Common.{◌≡◌, ℕ, ◌<◌, ◌≤◌, slice_index}
use Rattle.hsp_network.proofs.accept_prices.are_loaded.Given as goal

abbrev pub invariant-loop-place : goal.invariant-loop-place
invariant-loop-place l = record {
  within : (j : ℕ) → j < l.place → slice_index l.loads j ≤ slice_index l.bounds j;
  idle : (j : ℕ) → j < l.place → slice_index l.loads j < slice_index l.bounds j → slice_index l.prices j ≡ 0;
}
