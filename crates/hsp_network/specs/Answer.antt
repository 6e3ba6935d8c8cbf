-- What becomes of a network.
use Rattle.std.specs.Prelude.{◌≡◌, ℕ, ◌+◌, ◌*◌, ◌<◌, ◌≤◌, Bool, List, length, slice_index}
use Rattle.hsp_network.specs.Network.{Transport, HasLowPrices, numbered}
use Rattle.hsp_network.specs.declared.network.PricedFlow.{PricedFlow}
use Rattle.hsp_network.specs.declared.network.Outcome.{Outcome}
use Rattle.hsp_network.specs.declared.network.Outcome.TheVariants.{Met, Short}
use Rattle.hsp_transport.specs.Cut.{IsShort}
use Rattle.hsp_transport.specs.Flow.{IsFeasible}
use Rattle.hsp_transport.specs.Lists.{flag_at}
use Rattle.hsp_transport.specs.Prices.{HasPrices}

-- each arc's cost is within the bound
abbrev pub BoundsCosts : Transport → ℕ → Type 0
BoundsCosts net most = (k : ℕ) → k < length net.sources → slice_index net.costs k ≤ most

-- a flow for each arc, and a price for each source, server and host
pub record HasLengths (net : Transport) (plan : PricedFlow) : Type 0 where
  pub flows : length plan.flows.items ≡ length net.sources
  pub sources : length plan.source_prices.items ≡ length net.demands
  pub servers : length plan.server_prices.items ≡ length net.capacities
  pub hosts : length plan.host_prices.items ≡ length net.limits

-- no price is above the greatest cost for each source, server and host, and once more
abbrev pub HasBoundedPrices : Transport → PricedFlow → Type 0
HasBoundedPrices net plan = (most : ℕ) → BoundsCosts net most →
    HasLowPrices plan.source_prices.items plan.server_prices.items plan.host_prices.items
    ((length net.demands + length net.capacities + length net.limits + 1) * most)

-- a feasible flow that has complementary slackness with its prices
pub record IsBalanced (net : Transport) (plan : PricedFlow) : Type 0 where
  pub feasible : IsFeasible (numbered net) (λ k. slice_index plan.flows.items k)
  pub prices : HasPrices (numbered net) (λ k. slice_index plan.flows.items k)
      plan.source_prices.items plan.server_prices.items plan.host_prices.items

-- a flow that meets every source, with prices that show it to be a cheapest one and that are bounded
pub record IsMet (net : Transport) (plan : PricedFlow) : Type 0 where
  pub many : HasLengths net plan
  pub balanced : IsBalanced net plan
  pub low : HasBoundedPrices net plan

-- sources that demand more than the servers that they may use can take
pub record IsShortSet (net : Transport) (set : List Bool) : Type 0 where
  pub many : length set ≡ length net.demands
  pub short : IsShort (numbered net) (flag_at set)

abbrev pub Answers : Transport → Outcome → Type 0
Answers net (Met plan) = IsMet net plan
Answers net (Short set) = IsShortSet net set.items

-- the outcome is such a set
abbrev pub IsShortAnswer : Transport → Outcome → Type 0
IsShortAnswer net (Met plan) = ⊥
IsShortAnswer net (Short set) = IsShortSet net set.items
