-- The plan of a log's rows, as the text of a certificate by prices, or the first fault.
use Rattle.std.specs.Prelude.{◌≡◌, ◌⊎◌, ◌≤◌, ◌<◌, ◌^◌, ℕ, List, Result, Ok, Err, length, sum_by}
use Rattle.hsp_csv.specs.Records.{Fields}
use Rattle.hsp_text.specs.declared.limits.TheConstants.{LARGEST_FILE}
use Rattle.hsp_instance.specs.Instance.{Row}
use Rattle.hsp_prices.specs.Rows.{Service}
use Rattle.hsp_price_text.specs.Certificate.{IsCertificate}
use Rattle.hsp_price_text.specs.Text.{text_of}
use Rattle.hsp_price_text.specs.declared.certificate.PriceCertificate.{PriceCertificate}
use Rattle.hsp_prices.specs.Verdict.{IsVerdict}
use Rattle.hsp_prices.specs.declared.verdict.PriceVerdict.TheVariants.{Yes}
use Rattle.hsp_inputs.specs.declared.inputs.Inputs.{Inputs}
use Rattle.hsp_price_plan.specs.Limits.{AreTooLarge}
use Rattle.hsp_price_runs.specs.PriceRun.{Answering, AnswersBy, AnswersRecords, IsPriceVerdict}
use Rattle.hsp_price_runs.specs.PricesShown.{ShowsLog}
use Rattle.hsp_inputs.specs.declared.stream_fault.StreamFault.{StreamFault}
use Rattle.hsp_inputs.specs.declared.stream_fault.StreamFault.TheVariants.{TooLarge}
use Rattle.hsp_price_runs.specs.PricesText.{IsTextOf, octets_of}
use Rattle.hsp_price_runs.specs.declared.prices_text.PricesText.{PricesText}

-- ---- the rows

-- the text of a certificate that is valid for the rows
pub record IsPlanText (at : Service) (rows : List Row) (text : PricesText) : Type 0 where
  pub certificate : PriceCertificate
  pub is : IsTextOf certificate text
  pub valid : IsVerdict at rows certificate Yes

-- the rows ask for 2^63 queries or more
abbrev pub AskTooMuch : List Row → Type 0
AskTooMuch rows = 2 ^ 63 ≤ sum_by (λ row. row.count) rows

-- a certificate is valid for them and within its limits, and its text is longer than a file that is read whole
abbrev pub HasLongText : Service → List Row → Type 0
HasLongText at rows =
    (certificate : PriceCertificate) × IsVerdict at rows certificate Yes × IsCertificate certificate
    × (LARGEST_FILE < length (text_of certificate))

-- the text of a plan of the rows, or the fault that they are too large for one, with the reason
abbrev pub IsPlanBy : Service → List Row → Result PricesText StreamFault → Type 0
IsPlanBy at rows (Ok text) = IsPlanText at rows text
IsPlanBy at rows (Err fault) =
    (fault ≡ TooLarge) × (AskTooMuch rows ⊎ (HasLongText at rows ⊎ AreTooLarge at rows))

-- ---- the inputs

-- by an instance and its service, the rows of a log's records are planned
abbrev pub PlansRecords : Answering PricesText
PlansRecords it at answer records = AnswersRecords (IsPlanBy at) answer records

-- first the inputs are read, and then the log
abbrev pub IsPlannedLog : Inputs → Result PricesText StreamFault → List Fields → Type 0
IsPlannedLog inputs answer records = AnswersBy PlansRecords inputs answer records

-- The check says yes to the text, and the text shows a best plan of the log's rows, or that there is none.
pub record IsShownPlan (inputs : Inputs) (text : PricesText) (records : List Fields) : Type 0 where
  pub planned : IsPlannedLog inputs (Ok text) records
  pub checked : IsPriceVerdict inputs (octets_of text) records (Ok Yes)
  pub shows : ShowsLog inputs (octets_of text) records
