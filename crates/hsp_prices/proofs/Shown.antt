-- A valid certificate by prices of a plan shows a best plan of the rows.
use Rattle.std.proofs.Common.{◌≡◌, ◌∙◌, true, List, map, sym}
use Rattle.hsp_instance.specs.Instance.{Row}
use Rattle.hsp_prices.specs.Rows.{Service, network_for}
use Rattle.hsp_price_text.specs.Claim.{Best, is_best}
use Rattle.hsp_prices.specs.Classes.{IsPlanByClasses}
use Rattle.hsp_prices.proofs.Spread.{classes_show_best}
use Rattle.hsp_prices.specs.Least.{arcs_of}
use Rattle.hsp_prices.specs.Shown.{IsService, PlanIsShown}
use Rattle.hsp_prices.specs.Sums.{least_pay}
use Rattle.hsp_prices.specs.Verdict.{PlanMeets}
use Rattle.hsp_prices.specs.declared.verdict.PriceReason.{PriceReason}
use Rattle.hsp_prices.specs.declared.verdict.PriceReason.TheVariants.{Cost}
use Rattle.hsp_prices.proofs.ClassPlan.{class_plan, class_plan_feasible, class_prices, classes_network, host_load_is}
use Rattle.hsp_prices.proofs.ClassPlan.{load_is, of_classes, total_is}
use Rattle.hsp_prices.proofs.Flows.{class_table}
use Rattle.hsp_prices.proofs.Networks.{are_classes, class_of, class_pays, keeps_least, network_there, one_least}
use Rattle.hsp_prices.proofs.Networks.{pays_low}
use Rattle.hsp_prices.proofs.Paid.{paid_is}
use Rattle.hsp_prices.proofs.ServerArcs.{own_arcs}

module _ (at : Service) (plan : Best) (rows : List Row) (is : IsService at) (fits : is_best plan ≡ true)
    (meets : (r : PriceReason) → PlanMeets at rows plan r) where
  -- the plan of the classes is one by classes
  by_classes :
      IsPlanByClasses (network_for at rows) (of_classes at plan rows) (keeps_least at plan rows) (class_of at plan rows)
      (class_plan at plan rows) (map (least_pay at plan) rows) (map (least_pay at plan) (class_table at plan rows))
      plan.server_prices plan.host_prices
  by_classes = record {
    classes = are_classes at plan rows is;
    one = one_least at plan rows (class_table at plan rows);
    feasible = class_plan_feasible at plan rows is fits meets;
    prices = class_prices at plan rows is fits meets;
    of_classes = class_pays at plan rows is;
    reduced = pays_low at plan rows is;
  }

-- a valid certificate shows a best plan
pub plan_is_shown : PlanIsShown
plan_is_shown at rows plan is fits meets =
    let shown =
    classes_show_best (network_for at rows) (of_classes at plan rows) (keeps_least at plan rows) (class_of at plan rows)
    (class_plan at plan rows) (map (least_pay at plan) rows) (map (least_pay at plan) (class_table at plan rows))
    plan.server_prices plan.host_prices (network_there at is (arcs_of at) (own_arcs at is) rows)
    (classes_network at plan rows is) (by_classes at plan rows is fits meets) in (
      shown.0,
      record {
        best = shown.1;
        cost = shown.2.total ∙ total_is at plan rows is fits meets ∙ sym (meets Cost);
        loads = λ j. shown.2.load j ∙ load_is at plan rows is fits meets j;
        host_loads = λ h. shown.2.host_load h ∙ host_load_is at plan rows is fits meets h;
        bound = paid_is at plan is rows fits meets;
      },
    )
