use Rattle.std.proofs.Common.{◌∙◌, ap, subst, sym, refl}
use Rattle.std.proofs.lemmas.Result.{IfOk-weaker}
use Rattle.hsp_prices.specs.Sums.{row_cost}
use Rattle.hsp_price_check.specs.Checking.{IsJudge, judged_plan}
use Rattle.hsp_price_check.specs.Regions.{cost_by}
use Rattle.hsp_price_check.specs.declared.checking.Judge.TheVariants.{Plan, Set}
use Rattle.indexmap.proofs.MapLemmas.{OnOk-map}
use Rattle.hsp_price_check.proofs.checking.Judge.add.Goals as goal

pub returns-in-Plan-clause-passed : goal.returns-in-Plan-clause-passed
returns-in-Plan-clause-passed c =
    OnOk-map c.add.result _ _
    (λ added at certificate rows row judge of.
    let own : IsJudge at certificate rows (Plan c.in-Plan.pass) =
    subst (IsJudge at certificate rows) c.in-Plan.is judge in
    (own.0, own.1, added at own.0 rows row own.2 of))
    c.add.ensures.passed

pub returns-in-Plan-clause-cost : goal.returns-in-Plan-clause-cost
returns-in-Plan-clause-cost c =
    IfOk-weaker c.add.result _ _
    (λ cost spent at certificate rows row judge of.
    let own : IsJudge at certificate rows (Plan c.in-Plan.pass) =
    subst (IsJudge at certificate rows) c.in-Plan.is judge in
    spent at own.0 rows row own.2 of ∙ ap (λ plan. row_cost at plan row) (sym own.2.plan_is)
    ∙ ap (λ judge. cost_by at (judged_plan judge) row) (sym c.in-Plan.is))
    c.add.ensures.cost

pub returns-in-Set-clause-passed : goal.returns-in-Set-clause-passed
returns-in-Set-clause-passed c at certificate rows row judge of =
    let own : IsJudge at certificate rows (Set c.in-Set.pass) =
    subst (IsJudge at certificate rows) c.in-Set.is judge in (
      own.0,
      own.1,
      c.add-in-Set.ensures at own.0 rows row own.2 (record {
        region_is = refl;
        arcs_are = of.arcs_are;
        count_is = of.count_is;
      }),
    )

pub returns-in-Set-clause-cost : goal.returns-in-Set-clause-cost
returns-in-Set-clause-cost c at certificate rows row judge of =
    ap (λ judge. cost_by at (judged_plan judge) row) (sym c.in-Set.is)
