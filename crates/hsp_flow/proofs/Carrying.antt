-- A flow on numbered arcs, and the plan that gives each arc what flows on it.
use Rattle.std.proofs.Common.{◌≡◌, ℕ, ◌*◌, ◌<◌, Bool, List, length, map, slice_index, refl, sym}
use Rattle.std.proofs.lemmas.List.{length-map, get_or-map}
use Rattle.hsp_instance.specs.Instance.{Instance}
use Rattle.hsp_check.specs.declared.arc.NetworkArc.{NetworkArc}
use Rattle.hsp_check.specs.Network.{transport}
use Rattle.hsp_check.specs.Plan.{Feasible, planned, total}
use Rattle.hsp_check.specs.Prices.{Prices}
use Rattle.hsp_check.specs.Uses.{table}
use Rattle.hsp_network.specs.Network.{numbered}
use Rattle.hsp_transport.specs.Cut.{capacity_of, demand_of}
use Rattle.hsp_transport.specs.Flow.{IsFeasible}
use Rattle.hsp_transport.specs.Prices.{HasPrices}
use Rattle.hsp_transport.specs.Sums.{sum_below}
use Rattle.hsp_transport.proofs.Alike.{capacity_alike, cost_alike, demand_alike, feasible_alike}
use Rattle.hsp_transport.proofs.Alike.{prices_alike}
use Rattle.hsp_flow.specs.Ordered.{AreOrdered}
use Rattle.hsp_flow.specs.Planning.{cost_of, network_over, row_of, server_of, transport_over, uses_of}
use Rattle.hsp_flow.proofs.Bridging.{arc, none_planned, planned_is}
use Rattle.hsp_flow.proofs.Ordering.{no_arc}

module _ (it : Instance) (demands : List ℕ) (arcs : List NetworkArc) where
  -- each arc has a row
  many : length arcs ≡ length (map row_of arcs)
  many = sym (length-map arcs row_of)

  -- a part of an arc, by its column
  column : (part : NetworkArc → ℕ) (k : ℕ) → k < length arcs → part (arc arcs k) ≡ slice_index (map part arcs) k
  column part k l = sym (get_or-map part arcs k no_arc 0 l)

  -- a set of rows by the checker, and of sources by the planner
  module _ (s t : ℕ → Bool) (same : (i : ℕ) → s i ≡ t i) where
    -- a set of rows has the same demand by numbers
    pub demand_is : demand_of (transport (network_over it demands arcs)) s
        ≡ demand_of (numbered (transport_over it demands arcs)) t
    demand_is =
        demand_alike (transport (network_over it demands arcs)) no_arc _ many _ _ _ (column row_of) (column server_of)
        (column cost_of) s t same

    -- a set of rows has the same capacity by numbers
    pub capacity_is : capacity_of (transport (network_over it demands arcs)) s
        ≡ capacity_of (numbered (transport_over it demands arcs)) t
    capacity_is =
        capacity_alike (transport (network_over it demands arcs)) no_arc _ many _ _ _ (column row_of) (column server_of)
        (column cost_of) s t same

  -- the plan of a flow
  module _ (ordered : AreOrdered arcs) (flows : List ℕ) (all : length flows ≡ length arcs) where
    -- the uses give each arc what flows on it
    pub plan_is : (k : ℕ) → k < length arcs → planned (table (uses_of arcs flows)) (arc arcs k) ≡ slice_index flows k
    plan_is = planned_is arcs flows all ordered

    -- a feasible flow is a feasible plan
    pub feasible_is : IsFeasible (numbered (transport_over it demands arcs)) (λ k. slice_index flows k)
        → Feasible (network_over it demands arcs) (table (uses_of arcs flows))
    feasible_is feasible = record {
      allowed = none_planned arcs flows all;
      flow =
          feasible_alike (transport (network_over it demands arcs)) no_arc _ many _ _ _ (column row_of)
          (column server_of) (column cost_of) (planned (table (uses_of arcs flows))) _ plan_is
          feasible;
    }

    -- prices of a flow are prices of the plan
    pub prices_are : (u p q : List ℕ)
        → HasPrices (numbered (transport_over it demands arcs)) (λ k. slice_index flows k) u p q
        → Prices (network_over it demands arcs) (table (uses_of arcs flows)) u p q
    prices_are u p q prices =
        prices_alike (transport (network_over it demands arcs)) no_arc _ many _ _ _ (column row_of) (column server_of)
        (column cost_of) (planned (table (uses_of arcs flows))) _ plan_is u p q prices

    -- what the plan costs, by the columns
    pub cost_is : total (network_over it demands arcs) (table (uses_of arcs flows))
        ≡ sum_below (length arcs) (λ k. slice_index (map cost_of arcs) k * slice_index flows k)
    cost_is =
        cost_alike (transport (network_over it demands arcs)) no_arc _ refl _ _ _ (column row_of) (column server_of)
        (column cost_of) (planned (table (uses_of arcs flows))) _ plan_is
