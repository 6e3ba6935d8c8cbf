-- The sums of the flows are those of the plan.
use Rattle.std.proofs.Common.{◌≡◌, ℕ, ◌<◌, ◌==◌, ◌∙◌, length, sum_by, slice_index, All, if◌then◌else◌, ap, arith}
use Rattle.hsp_check.specs.declared.lists.FlowLists.{FlowLists}
use Rattle.hsp_check.specs.Lists.{AreHosted}
use Rattle.hsp_check.specs.Plan.{Plan, is_on, planned, load}
use Rattle.hsp_check.specs.ArcFlows.{host_in}
use Rattle.hsp_check.specs.Reach.{network_in}
use Rattle.hsp_check.specs.Loads.{AreLoads}
use Rattle.hsp_check.specs.declared.loads.Loads.{Loads}
use Rattle.hsp_transport.proofs.Summing.{sum_below_same}
use Rattle.hsp_check.proofs.FlowSums.{flow_sum}

-- the loads of the flows, as they are added up
pub record AreMade (lists : FlowLists) (loads : Loads) : Type 0 where
  pub rows_many : length loads.rows.items ≡ length lists.demands.now
  pub rows_are : (i : ℕ) → i < length lists.demands.now
      → slice_index loads.rows.items i ≡ sum_by (λ l. if l.arc.row == i then l.flow else 0) lists.arc_flows.now
  pub servers_many : length loads.servers.items ≡ length lists.capacities.now
  pub servers_are : (j : ℕ) → j < length lists.capacities.now
      → slice_index loads.servers.items j ≡ sum_by (λ l. if l.arc.server == j then l.flow else 0) lists.arc_flows.now
  pub hosts_many : length loads.hosts.items ≡ length lists.limits.now
  pub hosts_are : AreHosted lists.server_hosts.now loads.servers.items loads.hosts.items

-- loads that were added up are those of the plan
pub are_loads : (lists : FlowLists) (loads : Loads) → length lists.capacities.now ≡ length lists.server_hosts.now
    → AreMade lists loads →
    (x : Plan) → All (λ l. l.flow ≡ planned x l.arc) lists.arc_flows.now → AreLoads (network_in lists) x loads
are_loads lists loads many made x arc_flows = record {
  rows_many = made.rows_many;
  rows_are = λ i l. made.rows_are i l ∙ flow_sum (λ a m. if a.row == i then m else 0) x lists.arc_flows.now arc_flows;
  servers_many = made.servers_many;
  servers_are = takes;
  hosts_many = made.hosts_many;
  hosts_are =
      λ h l. made.hosts_are h (omega (arith, l, made.hosts_many))
      ∙ rw (← many)
      (sum_below_same (length lists.capacities.now) _ _
      (λ j m. ap (λ s. if is_on (host_in lists.server_hosts.now j) h then s else 0) (takes j m)));
}
  where
    takes : (j : ℕ) → j < length lists.capacities.now → slice_index loads.servers.items j ≡ load (network_in lists) x j
    takes j l = made.servers_are j l ∙ flow_sum (λ a m. if a.server == j then m else 0) x lists.arc_flows.now arc_flows
