use Rattle.std.proofs.Common.{◌≡◌, ◌<◌, ℕ, length, slice_index}
use Rattle.hsp_price_check.specs.Extras.{extra_at}
use Rattle.hsp_price_plan.proofs.press.sums_of_prices.Given as goal

abbrev pub invariant-loop-server : goal.invariant-loop-server
invariant-loop-server l = record {
  many : length l.sums.items ≡ l.server;
  each : (j : ℕ) → j < l.server
      → slice_index l.sums.items j ≡ extra_at l.hosts l.server_prices l.host_prices j;
}
