-- What is answered of a certificate by prices, by the rows of a log, or the first fault. What is asked is a relation
-- between an instance, its service, a certificate, rows and answers.
use Rattle.std.specs.Prelude.{◌≡◌, ℕ, List, Result, Ok, Err}
use Rattle.hsp_csv.specs.Records.{Fields}
use Rattle.hsp_text.specs.Answers.{Then, fault_as}
use Rattle.hsp_tables.specs.Costs.{CostEntry}
use Rattle.hsp_instance.specs.Instance.{Instance, IsInstance, Row}
use Rattle.hsp_prices.specs.Rows.{Service}
use Rattle.hsp_price_text.specs.declared.certificate.PriceCertificate.{PriceCertificate}
use Rattle.hsp_prices.specs.Verdict.{IsVerdict}
use Rattle.hsp_prices.specs.declared.verdict.PriceVerdict.{PriceVerdict}
use Rattle.hsp_inputs.specs.declared.fault.Fault.{Fault}
use Rattle.hsp_inputs.specs.Headline.{Defines}
use Rattle.hsp_inputs.specs.Instance.{IsInstanceOf, ReadsCosts}
use Rattle.hsp_inputs.specs.Readings.{IsCertificateIn}
use Rattle.hsp_inputs.specs.declared.inputs.Inputs.{Inputs}
use Rattle.hsp_price_check.specs.Classes.{service_of}
use Rattle.hsp_inputs.specs.Faults.{fault_of_input}
use Rattle.hsp_inputs.specs.declared.stream_fault.StreamFault.{StreamFault}
use Rattle.hsp_price_runs.specs.LogRows.{log_rows}
use Rattle.hsp_inputs.specs.Limits.{limits_of}

-- what is read of the inputs, with its fault as that of the run
abbrev pub OfInput : {X : Type 0} → (Result X Fault → Type 0) → Result X StreamFault → Type 0
OfInput {X} Is answer = (read : Result X Fault) × Is read × (answer ≡ fault_as fault_of_input read)

-- ---- questions

-- by an instance, its service and the records of a log this is answered
abbrev pub Answering : Type 0 → Type 1
Answering X = Instance → Service → Result X StreamFault → List Fields → Type 0

-- first the rows are read of the log, and then it is asked by them
abbrev pub AnswersRecords : {X : Type 0} → (List Row → Result X StreamFault → Type 0) → Result X StreamFault
    → List Fields → Type 0
AnswersRecords Is answer records = Then (λ rows. rows ≡ log_rows records) Is answer

-- before that the certificate is read
abbrev pub AnswersText : {X : Type 0} → (PriceCertificate → List Row → Result X StreamFault → Type 0) → List ℕ
    → Result X StreamFault → List Fields → Type 0
AnswersText Is octets answer records =
    Then (OfInput (IsCertificateIn octets)) (λ certificate own. AnswersRecords (Is certificate) own records) answer

abbrev pub AnswersByPrices : {X : Type 0}
    → (Instance → Service → PriceCertificate → List Row → Result X StreamFault → Type 0) → List ℕ → Answering X
AnswersByPrices Is octets it at answer records = AnswersText (Is it at) octets answer records

-- by an instance and the costs of the inputs
abbrev pub AnswersService : {X : Type 0} → Answering X → Inputs → List Fields → Instance → Result X StreamFault
    → Type 0
AnswersService By inputs records it answer =
    (costs : List CostEntry) × ReadsCosts (limits_of inputs) inputs.costs.items (Ok costs)
    × By it (service_of costs it) answer records

-- first of all the inputs are read
abbrev pub AnswersBy : {X : Type 0} → Answering X → Inputs → Result X StreamFault → List Fields → Type 0
AnswersBy By inputs answer records =
    Then (OfInput (IsInstanceOf inputs)) (AnswersService By inputs records) answer

-- and then a certificate
abbrev pub AnswersInputs : {X : Type 0}
    → (Instance → Service → PriceCertificate → List Row → Result X StreamFault → Type 0) → Inputs → List ℕ
    → Result X StreamFault → List Fields → Type 0
AnswersInputs Is inputs octets answer records =
    AnswersBy (AnswersByPrices Is octets) inputs answer records

-- ---- the verdict

-- the verdict by rows, which is no fault
abbrev pub IsVerdictBy : Service → PriceCertificate → List Row → Result PriceVerdict StreamFault → Type 0
IsVerdictBy at certificate rows (Ok verdict) = IsVerdict at rows certificate verdict
IsVerdictBy at certificate rows (Err e) = ⊥

abbrev pub IsPriceVerdict : Inputs → List ℕ → List Fields → Result PriceVerdict StreamFault → Type 0
IsPriceVerdict inputs octets records answer = AnswersInputs (λ it. IsVerdictBy) inputs octets answer records

-- ---- while it is asked

-- the instance of the inputs, within its limits
pub record IsReadFrom (inputs : Inputs) (it : Instance) : Type 0 where
  pub is : IsInstanceOf inputs (Ok it)
  pub within : IsInstance it
  pub defines : Defines inputs it

-- by the instance that was read
abbrev pub AnswersReadBy : {X : Type 0} → Answering X → Inputs → Result X StreamFault → List Fields → Type 0
AnswersReadBy By inputs answer records =
    (it : Instance) × IsReadFrom inputs it × AnswersService By inputs records it answer

abbrev pub AnswersRead : {X : Type 0}
    → (Instance → Service → PriceCertificate → List Row → Result X StreamFault → Type 0) → Inputs → List ℕ
    → Result X StreamFault → List Fields → Type 0
AnswersRead Is inputs octets answer records =
    AnswersReadBy (AnswersByPrices Is octets) inputs answer records
