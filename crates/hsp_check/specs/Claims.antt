-- What prices and short sets show, also of networks that differ in their numbers only (Network Flows, sections 9.3 and
-- 9.4).
use Rattle.std.specs.Prelude.{◌≡◌, ℕ, ◌+◌, ◌*◌, ◌≤◌, Bool, List, slice_index}
use Rattle.hsp_transport.specs.Changes.{IsMoreAt}
use Rattle.hsp_transport.specs.Sums.{times}
use Rattle.hsp_instance.specs.Instance.{Instance, IsInstance}
use Rattle.hsp_check.specs.Instance.{network_of}
use Rattle.hsp_check.specs.Network.{Network, IsNetwork}
use Rattle.hsp_check.specs.Plan.{Plan, Feasible, Best, total}
use Rattle.hsp_check.specs.Prices.{Prices}
use Rattle.hsp_check.specs.Short.{IsShort}

-- a feasible plan with prices is best, and what the rows pay is its total and what servers and hosts take
abbrev pub PricesShowBest : Type 0
PricesShowBest =
    (n : Network) (x : Plan) (u p q : List ℕ) → IsNetwork n → Feasible n x → Prices n x u p q →
    Best n x × (times n.demands u ≡ total n x + times n.capacities p + times n.limits q)

-- where some set of rows is short no plan is feasible
abbrev pub ShortShowsNone : Type 0
ShortShowsNone = (n : Network) (rows : ℕ → Bool) → IsNetwork n → IsShort n rows → (x : Plan) → Feasible n x → ⊥

-- the same arcs and hosts with other demands, capacities and limits
abbrev pub with_numbers : Network → List ℕ → List ℕ → List ℕ → Network
with_numbers n demands capacities limits = record {
  demands = demands;
  capacities = capacities;
  limits = limits;
  host_of = n.host_of;
  arcs = n.arcs;
}

-- no plan of the same arcs costs less than the rows pay beside what servers and hosts take, by the prices of some plan,
-- whatever the demands, the capacities and the limits are
abbrev pub PricesBoundChanges : Type 0
PricesBoundChanges =
    (n : Network) (x : Plan) (u p q : List ℕ) → Prices n x u p q → (demands capacities limits : List ℕ) →
    let m = with_numbers n demands capacities limits in IsNetwork m →
    (y : Plan) → Feasible m y → times demands u ≤ total m y + (times capacities p + times limits q)

-- the plan is a feasible one of a network
pub record IsServed (m : Network) (y : Plan) : Type 0 where
  pub is : IsNetwork m
  pub feasible : Feasible m y

-- What one number that differs by k is worth, by the prices of a feasible plan x: the plan y is any one of the network
-- with that number. Room for k more at a server or on a host saves at most k times its price, and room for k less costs
-- at least that. A row that asks for k more costs at least k times its price, and one that asks for k less saves at
-- most
-- that.
pub record OneChangeIsPriced (n : Network) (x : Plan) (u p q : List ℕ) : Type 0 where
  pub room_saves : (j k : ℕ) (others : List ℕ) → IsMoreAt j k n.capacities others →
      (y : Plan) → IsServed (with_numbers n n.demands others n.limits) y →
      total n x ≤ total n y + k * slice_index p j
  pub less_room_costs : (j k : ℕ) (others : List ℕ) → IsMoreAt j k others n.capacities →
      (y : Plan) → IsServed (with_numbers n n.demands others n.limits) y →
      total n x + k * slice_index p j ≤ total n y
  pub host_room_saves : (h k : ℕ) (others : List ℕ) → IsMoreAt h k n.limits others →
      (y : Plan) → IsServed (with_numbers n n.demands n.capacities others) y →
      total n x ≤ total n y + k * slice_index q h
  pub less_host_room_costs : (h k : ℕ) (others : List ℕ) → IsMoreAt h k others n.limits →
      (y : Plan) → IsServed (with_numbers n n.demands n.capacities others) y →
      total n x + k * slice_index q h ≤ total n y
  pub demand_costs : (i k : ℕ) (others : List ℕ) → IsMoreAt i k n.demands others →
      (y : Plan) → IsServed (with_numbers n others n.capacities n.limits) y →
      total n x + k * slice_index u i ≤ total n y
  pub less_demand_saves : (i k : ℕ) (others : List ℕ) → IsMoreAt i k others n.demands →
      (y : Plan) → IsServed (with_numbers n others n.capacities n.limits) y →
      total n x ≤ total n y + k * slice_index u i

abbrev pub OneChangeIsPricedBy : Type 0
OneChangeIsPricedBy =
    (n : Network) (x : Plan) (u p q : List ℕ) → IsNetwork n → Feasible n x → Prices n x u p q
    → OneChangeIsPriced n x u p q

-- what an instance asks about is a network
abbrev pub InstancesAreNetworks : Type 0
InstancesAreNetworks = (it : Instance) → IsInstance it → IsNetwork (network_of it)
