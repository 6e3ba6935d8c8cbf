use Rattle.std.proofs.Common.{◌≡◌, ◌+◌, ◌*◌, ◌<◌, ◌^◌, ℕ, sum_by}
use Rattle.std.specs.List.{zip}
use Rattle.hsp_prices.specs.Sums.{class_cost, cost_at}
use Rattle.hsp_price_check.specs.Classes.{service_of}
use Rattle.hsp_price_check.specs.Passed.{capped}
use Rattle.hsp_price_check.proofs.class_costs.class_cost.Given as goal

abbrev pub invariant-loop-server : goal.invariant-loop-server
invariant-loop-server l = record {
  small : l.sum < 2 ^ 128;
  cost : capped
      (l.sum
      + sum_by (λ (sent : ℕ × ℕ). cost_at (service_of l.costs l.instance) l.class.region sent.0 * sent.1)
      (zip l.server-iterator.a.rest.now l.server-iterator.b.rest.now))
      ≡ capped (class_cost (service_of l.costs l.instance) l.class);
}
