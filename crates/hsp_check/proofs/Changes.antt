-- What prices say of networks that differ in their numbers only.
use Rattle.std.proofs.Common.{◌≡◌, ℕ, ◌+◌, ◌≤◌, List, arith}
use Rattle.hsp_transport.specs.Sums.{times}
use Rattle.hsp_transport.proofs.Changes.{weighs_more}
use Rattle.hsp_transport.proofs.Duality.{prices_bound}
use Rattle.hsp_check.specs.Claims.{IsServed, OneChangeIsPricedBy, PricesBoundChanges, with_numbers}
use Rattle.hsp_check.specs.Network.{transport}
use Rattle.hsp_check.specs.Plan.{Plan, planned, total}
use Rattle.hsp_check.proofs.Duality.{prices_show_best}

-- prices of one network bound the cost of plans of another
pub prices_bound_changes : PricesBoundChanges
prices_bound_changes n x u p q prices demands capacities limits is y feasible =
    prices_bound (transport (with_numbers n demands capacities limits)) is u p q prices.below (planned y) feasible.flow

-- one number that changes is priced by its own price
pub one_change_is_priced : OneChangeIsPricedBy
one_change_is_priced n x u p q is feasible prices = record {
  room_saves =
      λ j k others more y served. let w = weighs_more j k n.capacities others p more in
      let b = bound n.demands others n.limits y served in omega (arith, sums, w, b);
  less_room_costs =
      λ j k others more y served. let w = weighs_more j k others n.capacities p more in
      let b = bound n.demands others n.limits y served in omega (arith, sums, w, b);
  host_room_saves =
      λ h k others more y served. let w = weighs_more h k n.limits others q more in
      let b = bound n.demands n.capacities others y served in omega (arith, sums, w, b);
  less_host_room_costs =
      λ h k others more y served. let w = weighs_more h k others n.limits q more in
      let b = bound n.demands n.capacities others y served in omega (arith, sums, w, b);
  demand_costs =
      λ i k others more y served. let w = weighs_more i k n.demands others u more in
      let b = bound others n.capacities n.limits y served in omega (arith, sums, w, b);
  less_demand_saves =
      λ i k others more y served. let w = weighs_more i k others n.demands u more in
      let b = bound others n.capacities n.limits y served in omega (arith, sums, w, b);
}
  where
    sums : times n.demands u ≡ total n x + times n.capacities p + times n.limits q
    sums = (prices_show_best n x u p q is feasible prices).1

    bound : (demands capacities limits : List ℕ) (y : Plan) → IsServed (with_numbers n demands capacities limits) y
        → times demands u ≤ total n y + (times capacities p + times limits q)
    bound demands capacities limits y served =
        prices_bound_changes n x u p q prices demands capacities limits served.is y served.feasible
