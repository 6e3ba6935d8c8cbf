-- The row goes where its region and its least arcs say, which is counted, and its count is added there.
use Rattle.std.proofs.Common.{◌∙◌, List, ℕ, ap, refl, subst, sym}
use Rattle.hsp_prices.specs.Least.{least_arcs}
use Rattle.hsp_instance.specs.Instance.{Row}
use Rattle.hsp_prices.specs.Rows.{Service}
use Rattle.hsp_price_text.specs.Claim.{Best}
use Rattle.hsp_price_check.specs.Extras.{pay_by}
use Rattle.hsp_price_check.specs.Passed.{IsAdded, IsPlaceOf, spent}
use Rattle.hsp_price_check.specs.PlanPass.{IsOfRow, IsPlanPass}
use Rattle.hsp_price_check.proofs.OneRow.{cost_is}
use Rattle.hsp_price_check.proofs.PassSteps.{sums_more}
use Rattle.hsp_price_check.proofs.PlanRows.{inside, least_is, place_is}
use Rattle.hsp_price_check.proofs.plan_pass.PlanPass.add.Goals as goal

pub add-requires : goal.add-requires
add-requires c =
    let pass = c.requires.pass in
    let least =
    c.deref-2.ensures.value ∙ c.in_ok-fill_least.ensures
    ∙ ap (λ extras. least_arcs (pay_by extras) c.args.arcs.now) c.deref.ensures.value in
    inside pass.0 pass.1 pass.2 c.args.self.now pass.3 c.args.region.now c.args.arcs.now c.deref-2.result.now
    c.in_ok-place.place c.requires.within least c.in_ok-place.ensures

pub returns : goal.returns
returns c =
    let place = c.in_ok-place.place in
    let placed : (at : Service) (plan : Best) (rows : List Row) (row : Row) → IsPlanPass at plan rows c.args.self.now
    → IsOfRow at row c.args.region.now c.args.arcs.now c.args.count → IsPlaceOf at plan row c.in_ok-place.place =
    λ at plan rows row was own.
    place_is at plan row c.args.self.now.classes.entries c.args.region.now c.deref-2.result.now c.in_ok-place.place
    was.classes own.region_is
    (c.deref-2.ensures.value ∙ c.in_ok-fill_least.ensures
    ∙ ap (λ extras. least_arcs (pay_by extras) c.args.arcs.now) c.deref.ensures.value
    ∙ least_is at plan rows c.args.self.now was row c.args.arcs.now own.arcs_are)
    c.in_ok-place.ensures in
    record {
      passed = λ at plan rows row was own.
          let added =
          subst (λ (count : ℕ). IsAdded c.args.self.now.sums place count c.add.new.self) (sym own.count_is)
          c.add.ensures.added in
          record {
            service = was.service;
            plan_is = was.plan_is;
            within = was.within;
            numbers = was.numbers;
            shape = was.shape;
            there = was.there;
            extras = was.extras;
            classes = was.classes;
            sums =
                sums_more at plan was.within rows row place c.args.self.now.sums c.add.new.self was.sums
                (placed at plan rows row was own) added;
          };
      cost = λ at plan rows row was own.
          c.add.ensures.cost ∙ ap (spent place) (sym own.count_is)
          ∙ sym (cost_is at plan row place (placed at plan rows row was own));
      plan = refl;
    }
