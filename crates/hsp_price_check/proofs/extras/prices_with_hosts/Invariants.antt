use Rattle.std.proofs.Common.{◌≡◌, ◌≤◌, ◌<◌, ℕ, length, slice_index}
use Rattle.hsp_price_check.specs.Extras.{extra_at, most_extra}
use Rattle.hsp_price_check.proofs.extras.prices_with_hosts.Given as goal

abbrev pub invariant-loop-server : goal.invariant-loop-server
invariant-loop-server l = record {
  many : length l.extras.items ≡ l.server;
  each : (j : ℕ) → j < l.server
      → slice_index l.extras.items j ≡ extra_at l.server_hosts l.server_prices l.host_prices j;
  low : (j : ℕ) → j < l.server → slice_index l.extras.items j ≤ most_extra;
}
