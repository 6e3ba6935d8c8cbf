-- Weak duality for prices that count in parts of a unit.
use Rattle.std.proofs.Common.{◌≡◌, ℕ, ◌+◌, ◌*◌, ◌≤◌, ◌∙◌, inl, inr, List, sum_by, arith}
use Rattle.std.proofs.Common.{mul-add, mul-one, mul_assoc, mul-le-mul_left}
use Rattle.std.proofs.lemmas.Bool.{cases_lt}
use Rattle.hsp_transport.specs.Network as theory
use Rattle.hsp_transport.specs.Flow.{IsFeasible}
use Rattle.hsp_transport.specs.Sums.{times}
use Rattle.hsp_transport.proofs.Duality.{prices_bound}
use Rattle.hsp_transport.proofs.Summing.{sum_by_same_all, sum_by_times}
use Rattle.hsp_check.specs.declared.arc.NetworkArc.{NetworkArc}
use Rattle.hsp_check.specs.Network.{Network, IsNetwork}
use Rattle.hsp_check.specs.Plan.{Plan, Feasible, planned, total}
use Rattle.hsp_prices.specs.Bounds.{HasNoNegativeReducedCost, full_takings}
use Rattle.hsp_prices.specs.Bounds.{PricesBoundPlans, GapsBoundPlans, SmallGapsShowBest}

-- the network whose costs count in parts of a unit
abbrev in_parts : Network → ℕ → theory.Network NetworkArc
in_parts n unit = record {
  demands = n.demands;
  capacities = n.capacities;
  limits = n.limits;
  host_of = n.host_of;
  arcs = n.arcs;
  source = λ a. a.row;
  server = λ a. a.server;
  cost = λ a. unit * a.cost;
}

module _ (n : Network) (unit : ℕ) (u p q : List ℕ) (is : IsNetwork n)
    (reduced : HasNoNegativeReducedCost n unit u p q) where
  -- what the rows pay is no more than a plan costs and what is full takes
  pub bound : (y : Plan) → Feasible n y → times n.demands u ≤ unit * total n y + full_takings n p q
  bound y feasible =
      let low = prices_bound (in_parts n unit) parts u p q reduced (planned y) flow in
      let cost : sum_by (λ a. unit * a.cost * planned y a) n.arcs ≡ unit * total n y =
      sum_by_same_all _ _ n.arcs (λ k d l. mul_assoc unit _ _) ∙ sum_by_times unit (λ a. a.cost * planned y a) n.arcs in
      omega arith
    where
      parts : theory.IsNetwork (in_parts n unit)
      parts = record { sources = is.sources; servers = is.servers; hosts = is.hosts }

      flow : IsFeasible (in_parts n unit) (planned y)
      flow = record { met = feasible.flow.met; within = feasible.flow.within; hosted = feasible.flow.hosted }

-- prices bound what plans cost
pub prices_bound_plans : PricesBoundPlans
prices_bound_plans n unit u p q is reduced y feasible = bound n unit u p q is reduced y feasible

-- near the bound is near the least
pub gaps_bound_plans : GapsBoundPlans
gaps_bound_plans n unit gap u p q is reduced cost near y feasible =
    omega (arith, bound n unit u p q is reduced y feasible)

-- within a unit it is the least
pub small_gaps_show_best : SmallGapsShowBest
small_gaps_show_best n unit gap u p q is reduced small cost near y feasible = elim (cases_lt (total n y) cost) [
  | inl more ↦
      absurd (omega (
        arith,
        gaps_bound_plans n unit gap u p q is reduced cost near y feasible,
        mul-le-mul_left unit more,
        mul-add unit (total n y) 1,
        mul-one unit,
      ))
  | inr done ↦ done
]
