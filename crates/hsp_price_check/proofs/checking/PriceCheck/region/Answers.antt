use Rattle.std.proofs.Common.{◌≡◌, ◌∙◌, ◌+◌, ◌<◌, Some, ap, length, arith}
use Rattle.std.proofs.lemmas.List.{get_or_default}
use Rattle.std.specs.List.{slice_get}
use Rattle.hsp_instance.specs.Instance.{regions_of}
use Rattle.hsp_price_text.specs.declared.certificate.PriceCertificate.TheVariants.{Plan}
use Rattle.hsp_prices.specs.Sums.{row_cost}
use Rattle.hsp_price_check.specs.Passed.{capped}
use Rattle.hsp_price_check.specs.Regions.{classes_sum, cost_by, no_sums, rows_sum}
use Rattle.hsp_price_check.proofs.Capping.{kept_more}
use Rattle.hsp_price_check.proofs.Judged.{valid_is_judged}
use Rattle.hsp_price_check.proofs.checking.PriceCheck.region.Goals as goal

pub returns-clause-cost : goal.returns-clause-cost
returns-clause-cost c at rows plan passed valid =
    let regions = c.args.self.now.regions.items in
    let name = c.region-name.result.now in
    let judged = valid_is_judged at rows plan c.args.self.now.judge passed.judge valid in
    let inside : c.args.number < length regions =
    omega (arith, c.requires.number, passed.regions.many, ap (λ list. length list) passed.regions_are) in
    let there : slice_get (regions_of rows) c.args.number ≡ Some name =
    rw passed.regions_are at c.region-name.ensures in
    let own =
    c.index-sums.ensures ∙ get_or_default regions c.args.number c.index-sums.result.now no_sums inside in
    let kept : c.index-sums.result.now.cost ≡ capped (rows_sum (row_cost at plan) rows name) =
    ap (λ s. s.cost) own ∙ passed.regions.cost c.args.number name there
    ∙ ap (λ p. capped (rows_sum (cost_by at p) rows name)) judged in
    c.region_cost.ensures at (Plan plan) rows plan passed judged
    ∙ ap (λ n. capped (n + classes_sum at plan.classes name)) kept
    ∙ kept_more (rows_sum (row_cost at plan) rows name) (classes_sum at plan.classes name)
