-- The certificate of a plan, by a flow over groups with its prices.
use Rattle.std.specs.Prelude.{◌≡◌, ◌*◌, ℕ, true, false, List, sum_by}
use Rattle.std.specs.List.{zip}
use Rattle.hsp_cert.specs.Certificate.{ascends}
use Rattle.hsp_instance.specs.declared.arc.Arc.{Arc}
use Rattle.hsp_network.specs.declared.network.PricedFlow.{PricedFlow}
use Rattle.hsp_prices.specs.Rows.{Service}
use Rattle.hsp_price_text.specs.Claim.{Best, is_before, is_best}
use Rattle.hsp_prices.specs.Groups.{Group}
use Rattle.hsp_prices.specs.Solved.{AreClassesOf, cost_of}
use Rattle.hsp_price_check.specs.PlanPass.{AreNumbersOf}
use Rattle.hsp_price_check.specs.declared.numbers.ServiceNumbers.{ServiceNumbers}

-- what flows over arcs cost
abbrev pub arcs_cost : List Arc → List ℕ → ℕ
arcs_cost arcs flows = sum_by (λ own. own.0.cost * own.1) (zip arcs flows)

-- the plan has the flow's prices, the classes of the groups and the cost of the flow
pub record IsPlanBy (at : Service) (groups : List Group) (flow : PricedFlow) (plan : Best) : Type 0 where
  pub server_prices : plan.server_prices ≡ flow.server_prices.items
  pub host_prices : plan.host_prices ≡ flow.host_prices.items
  pub classes : AreClassesOf at plan groups flow.flows.items
  pub cost : plan.cost ≡ cost_of groups flow.flows.items

-- so it is for each service of these numbers
abbrev pub IsPlanFor : ServiceNumbers → List Group → PricedFlow → Best → Type 0
IsPlanFor numbers groups flow plan = (at : Service) → AreNumbersOf at numbers → IsPlanBy at groups flow plan

-- such a plan, whose classes are in order, is past the limits of a text
pub record IsPlanPast (numbers : ServiceNumbers) (groups : List Group) (flow : PricedFlow) : Type 0 where
  pub plan : Best
  pub is : IsPlanFor numbers groups flow plan
  pub order : ascends is_before plan.classes ≡ true
  pub past : is_best plan ≡ false
