-- What is answered where inputs define an instance, a log has rows, and a text spells a certificate.
use Rattle.std.proofs.Common.{◌≡◌, ◌≢◌, ◌⊎◌, inl, inr, ℕ, List, Option, Some, None, Result, Ok, Err, IfErr, IfOk, ap}
use Rattle.std.proofs.Common.{refl, subst, ◌∙◌}
use Rattle.hsp_csv.specs.Records.{Fields, records_of}
use Rattle.hsp_text.specs.Answers.{Follows, Then, fault_as}
use Rattle.hsp_tables.specs.Costs.{CostEntry}
use Rattle.hsp_instance.specs.Instance.{Row}
use Rattle.hsp_cert.specs.Language.{Agrees}
use Rattle.hsp_cert.specs.declared.fault.CertFault.{CertFault}
use Rattle.hsp_cert.specs.declared.fault.CertFault.TheVariants as cert_fault
use Rattle.hsp_prices.specs.Rows.{Service}
use Rattle.hsp_price_text.specs.Reading.{HasOneAnswer, Means}
use Rattle.hsp_price_text.specs.declared.certificate.PriceCertificate.{PriceCertificate}
use Rattle.hsp_prices.specs.Verdict.{IsVerdict}
use Rattle.hsp_prices.specs.declared.verdict.PriceVerdict.{PriceVerdict}
use Rattle.hsp_prices.specs.declared.verdict.PriceVerdict.TheVariants.{No, Yes}
use Rattle.hsp_inputs.specs.declared.fault.Fault.{Fault}
use Rattle.hsp_inputs.specs.declared.fault.Fault.TheVariants.{Cert}
use Rattle.hsp_inputs.specs.Instance.{IsInstanceOf}
use Rattle.hsp_inputs.specs.HeadlineLaws.{GivesNothingElse}
use Rattle.hsp_inputs.specs.declared.inputs.Inputs.{Inputs}
use Rattle.hsp_price_check.specs.Classes.{service_of}
use Rattle.hsp_inputs.specs.Faults.{fault_of_input}
use Rattle.hsp_log.specs.LogRows.{OfLog}
use Rattle.hsp_inputs.specs.Stopping.{MayStopReading}
use Rattle.hsp_inputs.specs.declared.stream_fault.StreamFault.{StreamFault}
use Rattle.hsp_inputs.specs.Limits.{limits_of}
use Rattle.hsp_inputs.proofs.PageCosts.{costs_are_one}
use Rattle.hsp_price_runs.specs.LogRows.{log_rows}
use Rattle.hsp_price_runs.specs.PriceAlways.{HasRows, IsValidFor, SaysYesAlways}
use Rattle.hsp_price_runs.specs.PriceRun.{Answering, AnswersBy, AnswersByPrices, AnswersRecords, AnswersService}
use Rattle.hsp_price_runs.specs.PriceRun.{IsPriceVerdict, IsVerdictBy, OfInput}
use Rattle.hsp_inputs.specs.Readings.{IsCertificateIn}

-- a first step that is known is followed by the next
known_first : {A B E : Type 0} (First : Result A E → Type 0) (Next : A → Result B E → Type 0) (x : A)
    (answer : Result B E) → ((first : Result A E) → First first → first ≡ Ok x) → Then First Next answer → Next x answer
known_first {A} {B} {E} First Next x answer only (first, is, follows) =
    subst (λ (r : Result A E). Follows r Next answer) (only first is) follows

-- what is read of the inputs is known
known_input : {X : Type 0} (Is : Result X Fault → Type 0) (x : X)
    → ((read : Result X Fault) → Is read → read ≡ Ok x)
    → (answer : Result X StreamFault) → OfInput Is answer → answer ≡ Ok x
known_input Is x only answer (read, is, same) = same ∙ ap (λ r. fault_as fault_of_input r) (only read is)

-- the rows of a log are known
pub known_rows : {X : Type 0} (Is : List Row → Result X StreamFault → Type 0) (answer : Result X StreamFault)
    (records : List Fields) (rows : List Row) → log_rows records ≡ Ok rows → AnswersRecords Is answer records
    → Is rows answer
known_rows Is answer records rows are answers =
    known_first (λ first. first ≡ log_rows records) Is rows answer (λ first is. is ∙ are) answers

-- the instance and the costs are known
pub known_service : {X : Type 0} → GivesNothingElse → (By : Answering X) (inputs : Inputs)
    (answer : Result X StreamFault) (records : List Fields) (has : HasRows inputs records)
    → AnswersBy By inputs answer records → By has.it (service_of has.costs has.it) answer records
known_service only By inputs answer records has by =
    let (costs, read, answers) =
    known_first (OfInput (IsInstanceOf inputs)) (AnswersService By inputs records) has.it answer
    (known_input (IsInstanceOf inputs) has.it (λ own is. only inputs has.it own has.defines is)) by in
    subst (λ (own : List CostEntry). By has.it (service_of own has.it) answer records)
    (costs_are_one (limits_of inputs) has.it.sites inputs.costs.items costs has.costs read has.are_costs) answers

-- where a reading agrees with a certificate it is that one
agreed : (reading : Result PriceCertificate CertFault) (certificate : PriceCertificate)
    → reading ≢ Err cert_fault.OutOfMemory → Agrees reading (Ok certificate) → reading ≡ Ok certificate
agreed (Ok own) certificate other agrees = agrees
agreed (Err (cert_fault.BadLine n)) certificate other agrees = agrees
agreed (Err cert_fault.Ended) certificate other agrees = agrees
agreed (Err (cert_fault.AfterEnd n)) certificate other agrees = agrees
agreed (Err cert_fault.OutOfMemory) certificate other agrees = absurd (other refl)

-- the certificate that a text spells is known
known_certificate : HasOneAnswer → (octets : List ℕ) (certificate : PriceCertificate) → Means octets (Ok certificate)
    → (read : Result PriceCertificate Fault) → IsCertificateIn octets read → read ≡ Ok certificate
known_certificate one octets certificate means read (reading, own, other, same) =
    same ∙ ap (λ r. fault_as Cert r)
    (agreed reading certificate other (one octets reading (Ok certificate) own means))

-- nothing stands against a valid certificate
only_yes : (at : Service) (rows : List Row) (certificate : PriceCertificate) (answer : Result PriceVerdict StreamFault)
    → IsVerdict at rows certificate Yes → IsVerdictBy at certificate rows answer → answer ≡ Ok Yes
only_yes at rows certificate (Ok Yes) valid is = refl
only_yes at rows certificate (Ok (No reason)) valid is = absurd (is.0 (valid reason))
only_yes at rows certificate (Err e) valid is = absurd is

module _ (only : GivesNothingElse) (one : HasOneAnswer) (inputs : Inputs) (octets : List ℕ) where
  -- the verdict on a valid certificate is yes
  known_verdict : (records : List Fields) (answer : Result PriceVerdict StreamFault)
      → IsValidFor inputs octets records
      → IsPriceVerdict inputs octets records answer → answer ≡ Ok Yes
  known_verdict records answer is judged =
      let at = service_of is.has.costs is.has.it in
      let by =
      known_service only (AnswersByPrices (λ it. IsVerdictBy) octets) inputs answer records is.has judged in
      let asked =
      known_first (OfInput (IsCertificateIn octets))
      (λ certificate own. AnswersRecords (IsVerdictBy at certificate) own records) is.certificate answer
      (known_input (IsCertificateIn octets) is.certificate
      (known_certificate one octets is.certificate (is.is, is.text))) by in
      only_yes at is.has.rows is.certificate answer is.valid
      (known_rows (IsVerdictBy at is.certificate) answer records is.has.rows is.has.are_rows asked)

  -- so a run says yes to it
  pub says_yes : (MayFail : Type 0) (log : Option (List ℕ)) (answer : Result PriceVerdict StreamFault)
      → IfOk answer (λ verdict. OfLog log (λ records. IsPriceVerdict inputs octets records (Ok verdict)))
      → IfErr answer (λ fault. MayStopReading MayFail fault
      ⊎ OfLog log (λ records. IsPriceVerdict inputs octets records (Err fault)))
      → SaysYesAlways MayFail inputs octets log answer
  says_yes MayFail None answer judged stopped = tt
  says_yes MayFail (Some log) (Ok verdict) (records, same, is) stopped = λ valid.
      let yes : ◌≡◌ {A = Result PriceVerdict StreamFault} (Ok verdict) (Ok Yes) =
      known_verdict (records_of log) (Ok verdict) valid
      (subst (λ r. IsPriceVerdict inputs octets r (Ok verdict)) same is) in
      cc (yes)
  says_yes MayFail (Some log) (Err fault) judged (inl stops) = λ valid. stops
  says_yes MayFail (Some log) (Err fault) judged (inr (records, same, is)) = λ valid.
      let yes : ◌≡◌ {A = Result PriceVerdict StreamFault} (Err fault) (Ok Yes) =
      known_verdict (records_of log) (Err fault) valid
      (subst (λ r. IsPriceVerdict inputs octets r (Err fault)) same is) in
      cc (yes)
