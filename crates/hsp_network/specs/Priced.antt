-- Arcs with their prices.
use Rattle.std.specs.Prelude.{◌≡◌, ℕ, ◌+◌, ◌<◌, ◌≤◌, length, slice_index}
use Rattle.hsp_network.specs.Sums.{AreCarried}
use Rattle.hsp_network.specs.declared.accept_prices.ArcSums.{ArcSums}
use Rattle.hsp_network.specs.declared.accept_prices.PricedArcs.{PricedArcs}

-- what the source of the arc k pays
abbrev pub source_price : PricedArcs → ℕ → ℕ
source_price arcs k = slice_index arcs.source_prices.now (slice_index arcs.sources.now k)

-- what a unit on the arc k costs, with what it costs at its server
abbrev pub whole_cost : PricedArcs → ℕ → ℕ
whole_cost arcs k = slice_index arcs.costs.now k + slice_index arcs.paid.now (slice_index arcs.servers.now k)

-- the source pays no more than a unit on the arc costs, and exactly that where something flows
pub record IsPriced (arcs : PricedArcs) (k : ℕ) : Type 0 where
  pub below : source_price arcs k ≤ whole_cost arcs k
  pub used : 0 < slice_index arcs.flows.now k → source_price arcs k ≡ whole_cost arcs k

abbrev pub ArePriced : PricedArcs → Type 0
ArePriced arcs = (k : ℕ) → k < length arcs.sources.now → IsPriced arcs k

-- what flows on the arcs, added up by source and by server
pub record AreArcSums (arcs : PricedArcs) (sums : ArcSums) : Type 0 where
  pub sources_many : length sums.sent.items ≡ length arcs.source_prices.now
  pub servers_many : length sums.loads.items ≡ length arcs.paid.now
  pub sent : AreCarried arcs.sources.now arcs.flows.now sums.sent.items
  pub loads : AreCarried arcs.servers.now arcs.flows.now sums.loads.items
