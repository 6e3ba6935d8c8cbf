use Rattle.std.proofs.Common.{◌≡◌, ◌<◌, ◌-◌, ℕ, length, slice_index}
use Rattle.hsp_transport.specs.Lists.{host_in}
use Rattle.hsp_transport.specs.Prices.{at_host}
use Rattle.hsp_price_plan.proofs.press.own_prices.Given as goal

abbrev pub invariant-loop-server : goal.invariant-loop-server
invariant-loop-server l = record {
  many : length l.own.items ≡ l.server;
  each : (j : ℕ) → j < l.server → slice_index l.own.items j
      ≡ slice_index l.sums j - at_host (host_in l.hosts j) (λ h. slice_index l.host_prices h);
}
