-- What a check by prices answers wherever inputs define an instance and a log has rows.
use Rattle.std.specs.Prelude.{◌≡◌, ⊤, ℕ, List, Option, Some, None, Result, Ok, Err}
use Rattle.hsp_csv.specs.Records.{Fields, records_of}
use Rattle.hsp_tables.specs.Costs.{CostEntry}
use Rattle.hsp_instance.specs.Instance.{Instance, Row}
use Rattle.hsp_price_text.specs.Certificate.{IsCertificate}
use Rattle.hsp_price_text.specs.Text.{text_of}
use Rattle.hsp_price_text.specs.declared.certificate.PriceCertificate.{PriceCertificate}
use Rattle.hsp_prices.specs.Verdict.{IsVerdict}
use Rattle.hsp_prices.specs.declared.verdict.PriceVerdict.{PriceVerdict}
use Rattle.hsp_prices.specs.declared.verdict.PriceVerdict.TheVariants.{Yes}
use Rattle.hsp_inputs.specs.Headline.{AreCosts, Defines}
use Rattle.hsp_inputs.specs.declared.inputs.Inputs.{Inputs}
use Rattle.hsp_price_check.specs.Classes.{service_of}
use Rattle.hsp_inputs.specs.Stopping.{MayStopReading}
use Rattle.hsp_inputs.specs.declared.stream_fault.StreamFault.{StreamFault}
use Rattle.hsp_price_runs.specs.LogRows.{log_rows}
use Rattle.hsp_inputs.specs.Limits.{limits_of}

-- The inputs define an instance and costs, the records of a log have rows.
pub record HasRows (inputs : Inputs) (records : List Fields) : Type 0 where
  pub it : Instance
  pub defines : Defines inputs it
  pub costs : List CostEntry
  pub are_costs : AreCosts (limits_of inputs) it.sites inputs.costs.items costs
  pub rows : List Row
  pub are_rows : log_rows records ≡ Ok rows

-- The octets are moreover the text of a certificate that is valid for these rows.
pub record IsValidFor (inputs : Inputs) (octets : List ℕ) (records : List Fields) : Type 0 where
  pub has : HasRows inputs records
  pub certificate : PriceCertificate
  pub is : IsCertificate certificate
  pub text : octets ≡ text_of certificate
  pub valid : IsVerdict (service_of has.costs has.it) has.rows certificate Yes

-- yes; or memory ran out, or a read failed, where one may
abbrev pub IsYesUnless : Type 0 → Result PriceVerdict StreamFault → Type 0
IsYesUnless MayFail (Ok verdict) = verdict ≡ Yes
IsYesUnless MayFail (Err fault) = MayStopReading MayFail fault

-- so it is for every valid certificate, where the octets of the log are known
abbrev pub SaysYesAlways : Type 0 → Inputs → List ℕ → Option (List ℕ) → Result PriceVerdict StreamFault → Type 0
SaysYesAlways MayFail inputs octets None answer = ⊤
SaysYesAlways MayFail inputs octets (Some log) answer =
    IsValidFor inputs octets (records_of log) → IsYesUnless MayFail answer
