-- What the test of a plan finds.
use Rattle.std.specs.Prelude.{◌≡◌, List, ℕ}
use Rattle.hsp_network.specs.Lists.{AreIdle, ArePaid, AreWithin}
use Rattle.hsp_network.specs.Network.{Transport}
use Rattle.hsp_network.specs.declared.network.PricedFlow.{PricedFlow}

-- what a unit at each server costs beside the arc, by the plan's prices
abbrev pub ArePlanPaid : Transport → PricedFlow → List ℕ → Type 0
ArePlanPaid net plan paid = ArePaid net.hosts plan.server_prices.items plan.host_prices.items paid

-- sums of sources that are their demands, sums of servers and hosts within their bounds, and prices only of full ones
pub record AreKept (net : Transport) (plan : PricedFlow) (sent loads hosted : List ℕ) : Type 0 where
  pub met : sent ≡ net.demands
  pub within : AreWithin net.capacities loads
  pub idle : AreIdle net.capacities loads plan.server_prices.items
  pub hosts_within : AreWithin net.limits hosted
  pub hosts_idle : AreIdle net.limits hosted plan.host_prices.items
