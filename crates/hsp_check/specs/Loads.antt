-- What a plan brings to rows, servers and hosts.
use Rattle.std.specs.Prelude.{◌≡◌, ℕ, ◌<◌, length, slice_index}
use Rattle.hsp_check.specs.declared.lists.FlowLists.{FlowLists}
use Rattle.hsp_check.specs.declared.loads.Loads.{Loads}
use Rattle.hsp_check.specs.ArcFlows.{AreFlowsOf}
use Rattle.hsp_check.specs.Network.{Network}
use Rattle.hsp_check.specs.Plan.{Plan, served, load, host_load}
use Rattle.hsp_check.specs.Reach.{network_in}

-- what goes to each row, each server and each host
pub record AreLoads (n : Network) (x : Plan) (loads : Loads) : Type 0 where
  pub rows_many : length loads.rows.items ≡ length n.demands
  pub rows_are : (i : ℕ) → i < length n.demands → slice_index loads.rows.items i ≡ served n x i
  pub servers_many : length loads.servers.items ≡ length n.capacities
  pub servers_are : (j : ℕ) → j < length n.capacities → slice_index loads.servers.items j ≡ load n x j
  pub hosts_many : length loads.hosts.items ≡ length n.limits
  pub hosts_are : (h : ℕ) → h < length n.limits → slice_index loads.hosts.items h ≡ host_load n x h

-- the loads of whatever plan gives the arcs these flows
abbrev pub AreFlowLoads : FlowLists → Loads → Type 0
AreFlowLoads lists loads = (x : Plan) → AreFlowsOf x lists.arc_flows.now → AreLoads (network_in lists) x loads
