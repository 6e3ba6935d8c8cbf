use Rattle.std.proofs.lemmas.Result.{IfOk-weaker}
use Rattle.hsp_price_check.specs.Classes.{service_of}
use Rattle.hsp_price_report.proofs.kind.PriceReportKind.text.Goals as goal

pub price_region_report-requires : goal.price_region_report-requires
price_region_report-requires c =
    let (costs, rows, is) = c.requires in (service_of costs c.args.instance.now, rows, is)

pub returns-in-Region : goal.returns-in-Region
returns-in-Region c =
    IfOk-weaker c.price_region_report.result _ _ (λ text all costs rows is. rw c.in-Region.is (all _ rows is))
    c.price_region_report.ensures
