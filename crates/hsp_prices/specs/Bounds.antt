-- What prices of servers and hosts show of rows of any number, by sums that one pass adds up (weak duality, Network
-- Flows, section 9.4). Prices count in parts of a unit of cost: `unit` parts are one unit.
use Rattle.std.specs.Prelude.{ℕ, ◌+◌, ◌*◌, ◌<◌, ◌≤◌, List, All, slice_index}
use Rattle.hsp_transport.specs.Sums.{times}
use Rattle.hsp_check.specs.Network.{Network, IsNetwork}
use Rattle.hsp_check.specs.Plan.{Plan, Feasible, total}
use Rattle.hsp_check.specs.Prices.{price_at}

-- No reduced cost is negative: no row pays more than over any of its arcs, by the rows' prices u, the servers' p and
-- the hosts' q.
abbrev pub HasNoNegativeReducedCost : Network → ℕ → List ℕ → List ℕ → List ℕ → Type 0
HasNoNegativeReducedCost n unit u p q =
    All (λ a. slice_index u a.row ≤ unit * a.cost + price_at n p q a.server) n.arcs

-- what full servers and hosts take by their prices
abbrev pub full_takings : Network → List ℕ → List ℕ → ℕ
full_takings n p q = times n.capacities p + times n.limits q

-- what the rows pay is at most what any plan costs, and what full servers and hosts take
abbrev pub PricesBoundPlans : Type 0
PricesBoundPlans =
    (n : Network) (unit : ℕ) (u p q : List ℕ) → IsNetwork n → HasNoNegativeReducedCost n unit u p q
    → (y : Plan) → Feasible n y → times n.demands u ≤ unit * total n y + full_takings n p q

-- a cost that is that but for a gap is at most any other, but for the gap
abbrev pub GapsBoundPlans : Type 0
GapsBoundPlans =
    (n : Network) (unit gap : ℕ) (u p q : List ℕ) → IsNetwork n → HasNoNegativeReducedCost n unit u p q
    → (cost : ℕ) → unit * cost + full_takings n p q ≤ times n.demands u + gap
    → (y : Plan) → Feasible n y → unit * cost ≤ unit * total n y + gap

-- where the gap is less than a unit no plan costs less, since costs are whole numbers
abbrev pub SmallGapsShowBest : Type 0
SmallGapsShowBest =
    (n : Network) (unit gap : ℕ) (u p q : List ℕ) → IsNetwork n → HasNoNegativeReducedCost n unit u p q → gap < unit
    → (cost : ℕ) → unit * cost + full_takings n p q ≤ times n.demands u + gap
    → (y : Plan) → Feasible n y → cost ≤ total n y
