use Rattle.std.proofs.Common.{◌∙◌, ◌≤◌, length, ap, arith}
use Rattle.std.proofs.lemmas.List.{take_all}
use Rattle.std.proofs.lemmas.List.Sums.{sum_by_more}
use Rattle.std.proofs.lemmas.Option.{get_or_from_slice_get, slice_get_within}
use Rattle.hsp_instance.specs.Instance.{regions_of}
use Rattle.hsp_price_text.specs.declared.certificate.PriceCertificate.TheVariants.{Plan}
use Rattle.hsp_price_check.specs.Passed.{capped}
use Rattle.hsp_price_check.specs.Regions.{region_demand}
use Rattle.hsp_price_report.proofs.Exact.{total_exact}
use Rattle.hsp_price_report.proofs.Totals.{demands_add_up}
use Rattle.hsp_price_report.proofs.regions.total_demand.Goals as goal

pub loop-number-preserved : goal.loop-number-preserved
loop-number-preserved c = λ at plan rows is.
    let names = regions_of rows in
    let n = c.loop-number.number in
    let name = c.region-demand.result.0.now in
    let got = c.region-demand.ensures.name at (Plan plan) rows is.passed in
    omega (
      arith,
      c.saturating_add-sum.ensures,
      c.loop-number.invariant at plan rows is,
      c.region-demand.ensures.demand at (Plan plan) rows is.passed,
      sum_by_more (region_demand rows) names n name (slice_get_within names n name got),
      ap (region_demand rows) (get_or_from_slice_get names n name name got),
    )

pub returns : goal.returns
returns c = λ at plan rows is.
    let many = c.regions-number-end.ensures.rows at (Plan plan) rows is.passed in
    let all : length (regions_of rows) ≤ c.loop-number.number = omega (arith, many, c.loop-number-test.false) in
    rw (take_all c.loop-number.number (regions_of rows) all) at (c.loop-number.invariant at plan rows is)
    ∙ ap capped (demands_add_up rows) ∙ total_exact at plan rows is.passed.service is.is is.valid
