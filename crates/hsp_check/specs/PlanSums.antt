-- The sums of a plan and of its prices.
use Rattle.std.specs.Prelude.{◌≡◌, ◌+◌}
use Rattle.hsp_cert.specs.Certificate.{Best as BestClaim}
use Rattle.hsp_check.specs.declared.totals.PlanSums.{PlanSums}
use Rattle.hsp_transport.specs.Sums.{times}
use Rattle.hsp_check.specs.Network.{Network}
use Rattle.hsp_check.specs.Plan.{total}
use Rattle.hsp_check.specs.Uses.{table}
use Rattle.hsp_check.specs.Loads.{AreLoads}

-- the plan's loads, what it costs, what the rows pay, and what servers and hosts take
pub record AreSums (n : Network) (c : BestClaim) (sums : PlanSums) : Type 0 where
  pub loads : AreLoads n (table c.uses) sums.loads
  pub cost : sums.cost ≡ total n (table c.uses)
  pub demand_worth : sums.demand_worth ≡ times n.demands c.row_prices
  pub capacity_worth : sums.capacity_worth ≡ times n.capacities c.server_prices + times n.limits c.host_prices
