-- The report of each kind.
use Rattle.std.specs.Prelude.{ℕ, List}
use Rattle.hsp_instance.specs.Instance.{Instance, Row}
use Rattle.hsp_prices.specs.Rows.{Service}
use Rattle.hsp_price_text.specs.Claim.{Best}
use Rattle.hsp_price_report.specs.LoadReport.{load_report}
use Rattle.hsp_price_report.specs.RegionReport.{region_report}
use Rattle.hsp_price_report.specs.declared.kind.PriceReportKind.{PriceReportKind}
use Rattle.hsp_price_report.specs.declared.kind.PriceReportKind.TheVariants.{Load, Region}

-- the report of this kind
abbrev pub report_text : PriceReportKind → Instance → Service → Best → List Row → List ℕ
report_text Load it at plan rows = load_report it at plan rows
report_text Region it at plan rows = region_report at plan rows
