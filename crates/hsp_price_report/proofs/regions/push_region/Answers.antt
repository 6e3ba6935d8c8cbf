use Rattle.std.proofs.Common.{◌∙◌, []}
use Rattle.std.proofs.lemmas.Option.{get_or_from_slice_get}
use Rattle.std.proofs.lemmas.Result.{on_ok_weaker}
use Rattle.hsp_instance.specs.Instance.{regions_of}
use Rattle.hsp_price_text.specs.declared.certificate.PriceCertificate.TheVariants.{Plan}
use Rattle.hsp_price_report.proofs.Exact.{cost_exact, demand_exact}
use Rattle.hsp_price_report.proofs.regions.push_region.Goals as goal

pub returns : goal.returns
returns c =
    on_ok_weaker c.push_columns.result (λ pushed at plan rows is.
    let own = is.passed in
    let name = c.region-demand.result.0.now in
    let got =
    get_or_from_slice_get (regions_of rows) c.args.number name [] (c.region-demand.ensures.name at (Plan plan) rows own)
    in
    let demand =
    c.region-demand.ensures.demand at (Plan plan) rows own
    ∙ demand_exact at plan rows own.service is.is is.valid name in
    let cost =
    c.region-demand.ensures.cost at rows plan own is.valid ∙ cost_exact at plan rows own.service is.is is.valid name in
    rw got (rw (c.aligned.ensures, c.aligned-2.ensures, demand, cost) at pushed)) c.push_columns.ensures
