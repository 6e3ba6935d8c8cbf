-- The report of a certificate by prices, by the rows of a log, or the first fault.
use Rattle.std.specs.Prelude.{◌≡◌, ℕ, List, Result, Ok, Err}
use Rattle.hsp_csv.specs.Records.{Fields}
use Rattle.hsp_instance.specs.Instance.{Instance, Row}
use Rattle.hsp_prices.specs.Rows.{Service}
use Rattle.hsp_price_text.specs.Claim.{Best}
use Rattle.hsp_price_text.specs.declared.certificate.PriceCertificate.{PriceCertificate}
use Rattle.hsp_price_text.specs.declared.certificate.PriceCertificate.TheVariants.{Plan, Shortage}
use Rattle.hsp_prices.specs.Verdict.{IsVerdict}
use Rattle.hsp_prices.specs.declared.verdict.PriceVerdict.TheVariants.{No, Yes}
use Rattle.hsp_inputs.specs.declared.fault.Fault.TheVariants.{WrongKind}
use Rattle.hsp_inputs.specs.declared.inputs.Inputs.{Inputs}
use Rattle.hsp_price_report.specs.Kinds.{report_text}
use Rattle.hsp_price_report.specs.declared.kind.PriceReportKind.{PriceReportKind}
use Rattle.hsp_inputs.specs.declared.stream_fault.StreamFault.{StreamFault}
use Rattle.hsp_inputs.specs.declared.stream_fault.StreamFault.TheVariants.{Input}
use Rattle.hsp_price_runs.specs.PriceRun.{AnswersInputs}
use Rattle.hsp_price_runs.specs.declared.report.PriceReport.{PriceReport}
use Rattle.hsp_price_runs.specs.declared.report.PriceReport.TheVariants.{Refused, Shown}

-- the first reason against the certificate, or the report of a valid plan, or the fault of a short set
abbrev pub IsReportBy : PriceReportKind → Instance → Service → PriceCertificate → List Row
    → Result PriceReport StreamFault → Type 0
IsReportBy kind it at certificate rows (Ok (Refused reason)) = IsVerdict at rows certificate (No reason)
IsReportBy kind it at (Plan plan) rows (Ok (Shown text)) =
    IsVerdict at rows (Plan plan) Yes × (text.items ≡ report_text kind it at plan rows)
IsReportBy kind it at (Shortage set) rows (Ok (Shown text)) = ⊥
IsReportBy kind it at (Plan plan) rows (Err fault) = ⊥
IsReportBy kind it at (Shortage set) rows (Err fault) =
    IsVerdict at rows (Shortage set) Yes × (fault ≡ Input WrongKind)

abbrev pub IsPriceReport : PriceReportKind → Inputs → List ℕ → List Fields → Result PriceReport StreamFault → Type 0
IsPriceReport kind inputs octets records answer = AnswersInputs (IsReportBy kind) inputs octets answer records
