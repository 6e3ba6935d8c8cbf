-- A flow with prices through an instance's network is a valid certificate's plan.
use Rattle.std.proofs.Common.{◌≡◌, ℕ, zero, suc, ◌*◌, ◌<◌, ◌≤◌, ◌∙◌, Bool, true, false, List, [], ◌∷◌, length}
use Rattle.std.proofs.Common.{slice_index, refl, sym, inl, inr, arith, eq-eqb, ne_eqb}
use Rattle.std.specs.Prelude.{◌||◌}
use Rattle.std.specs.List.{AllByRecursion, list_any}
use Rattle.std.proofs.lemmas.List.Elements.{All-from_get_or, All-from_recursion, recursion_from_All}
use Rattle.std.proofs.lemmas.List.{length-map}
use Rattle.std.proofs.lemmas.Bool.{cases_eq, and_from}
use Rattle.hsp_cert.specs.declared.use_line.UseLine.{UseLine}
use Rattle.hsp_instance.specs.Instance.{Instance, IsInstance, AreArcs, IsAscending}
use Rattle.hsp_check.specs.declared.arc.NetworkArc.{NetworkArc}
use Rattle.hsp_check.specs.Instance.{arcs_from, demands_in, network_of}
use Rattle.hsp_check.specs.Plan.{Feasible, Plan, total}
use Rattle.hsp_check.specs.Network.{is_allowed}
use Rattle.hsp_check.specs.Prices.{Prices, ArePrices}
use Rattle.hsp_check.specs.Valid.{IsValidPlan}
use Rattle.hsp_check.specs.Uses.{table}
use Rattle.hsp_network.specs.Answer.{IsMet}
use Rattle.hsp_network.specs.Network.{HasLowPrices}
use Rattle.hsp_network.specs.declared.network.PricedFlow.{PricedFlow}
use Rattle.hsp_transport.specs.Sums.{sum_below}
use Rattle.hsp_flow.proofs.Carrying.{cost_is as cost_by, feasible_is, prices_are}
use Rattle.hsp_flow.specs.Ordered.{AreOrdered}
use Rattle.hsp_flow.specs.Planning.{transport_of, uses_of, row_of}
use Rattle.hsp_flow.proofs.Ordering.{no_arc, all_ordered}
use Rattle.hsp_flow.proofs.Bridging.{arc, leads}
use Rattle.hsp_instance.proofs.Lists.{all_so}

-- the arcs of an instance stand in order
pub instance_ordered : (it : Instance) → IsInstance it → AreOrdered (arcs_from 0 it.arcs)
instance_ordered it is =
    all_ordered 0 it.arcs (all_so (AreArcs it.servers) IsAscending it.arcs (λ arcs a. a.ascending) is.arcs)

-- each arc joins its row and its site
pub allowed_at : (arcs : List NetworkArc) (k : ℕ) → k < length arcs
    → list_any (leads (arc arcs k).row (arc arcs k).site) arcs ≡ true
allowed_at [] k l = absurd (omega arith)
allowed_at (a ∷ arcs) zero l =
    let here : leads a.row a.site a ≡ true = and_from _ _ (eq-eqb a.row a.row refl) (eq-eqb a.site a.site refl) in
    rw here refl
allowed_at (a ∷ arcs) (suc k) l = behind (leads (arc arcs k).row (arc arcs k).site a) (allowed_at arcs k (omega arith))
  where
    behind : (b : Bool) → list_any (leads (arc arcs k).row (arc arcs k).site) arcs ≡ true
        → (b || list_any (leads (arc arcs k).row (arc arcs k).site) arcs) ≡ true
    behind true h = refl
    behind false h = h

-- what holds of the ends of each arc holds of each use
pub of_uses : (P : ℕ → ℕ → Type 0) (arcs : List NetworkArc) (flows : List ℕ) → AllByRecursion (λ a. P a.row a.site) arcs
    → AllByRecursion (λ (u : UseLine). P u.row u.site) (uses_of arcs flows)
of_uses P [] flows h = tt
of_uses P (a ∷ arcs) [] h = tt
of_uses P (a ∷ arcs) (flow ∷ flows) h = elim (cases_eq flow 0) [
  | inl none ↦ rw none (of_uses P arcs flows h.1)
  | inr some ↦ rw (ne_eqb flow 0 some) (h.0, of_uses P arcs flows h.1)
]

module _ (it : Instance) (is : IsInstance it) (plan : PricedFlow) (met : IsMet (transport_of it) plan) where
  abbrev pub plan_of_flow : Plan
  plan_of_flow = table (uses_of (arcs_from 0 it.arcs) plan.flows.items)

  -- each arc has a flow
  all : length plan.flows.items ≡ length (arcs_from 0 it.arcs)
  all = met.many.flows ∙ length-map (arcs_from 0 it.arcs) row_of

  -- the plan of the flow is feasible
  pub plan_feasible : Feasible (network_of it) plan_of_flow
  plan_feasible =
      feasible_is it (demands_in it) (arcs_from 0 it.arcs) (instance_ordered it is) plan.flows.items all
      met.balanced.feasible

  -- the prices of the flow are prices of the plan
  plan_prices : Prices (network_of it) plan_of_flow plan.source_prices.items plan.server_prices.items
      plan.host_prices.items
  plan_prices =
      prices_are it (demands_in it) (arcs_from 0 it.arcs) (instance_ordered it is) plan.flows.items all _ _ _
      met.balanced.prices

  -- what the plan costs, by the columns
  pub cost_is : total (network_of it) plan_of_flow
      ≡ sum_below (length (arcs_from 0 it.arcs))
      (λ k. slice_index (transport_of it).costs k * slice_index plan.flows.items k)
  cost_is = cost_by it (demands_in it) (arcs_from 0 it.arcs) (instance_ordered it is) plan.flows.items all

  -- the plan, its cost and its prices make a valid certificate
  pub plan_valid : (most : ℕ) → most ≤ 1000000000000
      → HasLowPrices plan.source_prices.items plan.server_prices.items plan.host_prices.items most →
      (cost : ℕ)
      → cost
      ≡ sum_below (length (arcs_from 0 it.arcs))
      (λ k. slice_index (transport_of it).costs k * slice_index plan.flows.items k) →
      IsValidPlan (network_of it) (record {
        cost = cost;
        uses = uses_of (arcs_from 0 it.arcs) plan.flows.items;
        row_prices = plan.source_prices.items;
        server_prices = plan.server_prices.items;
        host_prices = plan.host_prices.items;
      })
  plan_valid most low bounded cost sum = record {
    allowed =
        All-from_recursion (λ (u : UseLine). is_allowed (network_of it) u.row u.site ≡ true)
        (uses_of (arcs_from 0 it.arcs) plan.flows.items)
        (of_uses (λ i s. is_allowed (network_of it) i s ≡ true) (arcs_from 0 it.arcs) plan.flows.items
        (recursion_from_All _ _
        (All-from_get_or (λ (a : NetworkArc). is_allowed (network_of it) a.row a.site ≡ true) (arcs_from 0 it.arcs)
        no_arc (λ k l. allowed_at (arcs_from 0 it.arcs) k l))));
    feasible = plan_feasible;
    cost = sum ∙ sym cost_is;
    prices = plan_prices;
    row_prices = (met.many.sources, are_prices plan.source_prices.items bounded.sources);
    server_prices = (met.many.servers, are_prices plan.server_prices.items bounded.servers);
    host_prices = (met.many.hosts, are_prices plan.host_prices.items bounded.hosts);
  }
    where
      are_prices : (xs : List ℕ) → ((i : ℕ) → i < length xs → slice_index xs i ≤ most) → ArePrices xs
      are_prices xs each = All-from_get_or (λ v. v ≤ 1000000000000) xs 0 (λ i l. omega (arith, each i l))
