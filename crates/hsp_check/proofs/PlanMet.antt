-- The conditions of a plan on a network, by its sums.
use Rattle.std.proofs.Common.{◌≡◌, ℕ, ◌+◌, ◌*◌, ◌<◌, ◌≤◌, ◌↔◌, List, sum_by, All, slice_index, arith}
use Rattle.hsp_cert.specs.declared.use_line.UseLine.{UseLine}
use Rattle.hsp_check.specs.declared.lists.FlowLists.{FlowLists}
use Rattle.hsp_check.specs.declared.prices.PriceLists.{PriceLists}
use Rattle.hsp_check.specs.declared.verdict.Reason.TheVariants.{ArcPrice, UsedArcPrice}
use Rattle.hsp_check.specs.Plan.{planned, total}
use Rattle.hsp_check.specs.Prices.{price_at}
use Rattle.hsp_check.specs.Listed.{listed_at}
use Rattle.hsp_check.specs.Reach.{network_in}
use Rattle.hsp_check.specs.Uses.{table}
use Rattle.hsp_check.specs.Judged.{claim_of}
use Rattle.hsp_check.specs.Verdict.{PlanMeets}
use Rattle.hsp_check.proofs.FlowSums.{flow_sum, on_arcs}

module _ (lists : FlowLists) (cost : ℕ) (uses : List UseLine) (prices : PriceLists)
    (server_hosts : prices.server_hosts.now ≡ lists.server_hosts.now)
    (flows : All (λ l. l.flow ≡ planned (table uses) l.arc) lists.arc_flows.now) where
  -- the sum over flows is the total of the plan
  pub cost_is : sum_by (λ l. l.arc.cost * l.flow) lists.arc_flows.now ≡ total (network_in lists) (table uses)
  cost_is = flow_sum (λ a m. a.cost * m) (table uses) lists.arc_flows.now flows

  -- no arc is cheaper than its prices, asked over flows or over arcs
  pub low_met : All (λ l. slice_index prices.rows.now l.arc.row ≤ l.arc.cost + listed_at prices l.arc.server)
      lists.arc_flows.now ↔ PlanMeets (network_in lists) (claim_of cost uses prices) ArcPrice
  low_met =
      rw server_hosts
      (on_arcs
      (λ a. slice_index prices.rows.now a.row
      ≤ a.cost + price_at (network_in lists) prices.servers.now prices.hosts.now a.server) lists.arc_flows.now)

  -- each arc in use costs its prices, asked over flows or over uses
  pub tight_met : All
      (λ l. 0 < l.flow → slice_index prices.rows.now l.arc.row ≡ l.arc.cost + listed_at prices l.arc.server)
      lists.arc_flows.now ↔ PlanMeets (network_in lists) (claim_of cost uses prices) UsedArcPrice
  tight_met =
      let arcs = on_arcs
      (λ a. 0 < planned (table uses) a
      → slice_index prices.rows.now a.row
      ≡ a.cost + price_at (network_in lists) prices.servers.now prices.hosts.now a.server)
      lists.arc_flows.now in
      rw server_hosts (
        λ h. arcs.0 (λ k d l m. h k d l (omega (arith, flows k d l))),
        λ h k d l m. arcs.1 h k d l (omega (arith, flows k d l)),
      )
