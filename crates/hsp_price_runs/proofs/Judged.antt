-- The answer of a check of a certificate, from the rows of a log to the inputs.
use Rattle.std.proofs.Common.{ℕ, List, [], Option, Result, Ok, Err, refl, sym}
use Rattle.hsp_csv.specs.Records.{Fields}
use Rattle.hsp_instance.specs.Instance.{Instance, Row}
use Rattle.hsp_prices.specs.Rows.{Service}
use Rattle.hsp_price_text.specs.declared.certificate.PriceCertificate.{PriceCertificate}
use Rattle.hsp_inputs.specs.declared.fault.Fault.{Fault}
use Rattle.hsp_inputs.specs.Instance.{IsInstanceOf}
use Rattle.hsp_inputs.specs.declared.inputs.Inputs.{Inputs}
use Rattle.hsp_price_check.specs.Checking.{IsPassed}
use Rattle.hsp_price_check.specs.declared.checking.PriceCheck.{PriceCheck}
use Rattle.hsp_inputs.specs.Faults.{fault_of_input}
use Rattle.hsp_log.specs.LogRows.{OfLog}
use Rattle.hsp_inputs.specs.declared.stream_fault.StreamFault.{StreamFault}
use Rattle.hsp_price_runs.specs.LogRows.{log_rows}
use Rattle.hsp_price_runs.specs.Passing.{TakesRows}
use Rattle.hsp_price_runs.specs.Taking.{HasPassedOver}
use Rattle.hsp_price_runs.specs.PriceRun.{Answering, AnswersBy, AnswersReadBy, AnswersRecords, AnswersService}
use Rattle.hsp_price_runs.specs.PriceRun.{AnswersText}
use Rattle.hsp_inputs.specs.Readings.{IsCertificateIn}

module _ (at : Service) (certificate : PriceCertificate) (old new : PriceCheck) (fresh : IsPassed at certificate [] old)
  where
    -- a check that has passed over a log is over some rows
    pub some_rows : (log : Option (List ℕ)) → OfLog log (λ records. TakesRows HasPassedOver (log_rows records) old new)
        → (rows : List Row) × IsPassed at certificate rows new
    some_rows log (records, known, over) = (over.rows, over.taken.passed at certificate fresh)

    -- its answer is that by the rows of the log
    pub answered_log : {X : Type 0} (Is : List Row → Result X StreamFault → Type 0) (log : Option (List ℕ))
        (answer : Result X StreamFault) → ((rows : List Row) → IsPassed at certificate rows new → Is rows answer)
        → OfLog log (λ records. TakesRows HasPassedOver (log_rows records) old new)
        → OfLog log (AnswersRecords Is answer)
    answered_log Is log answer answers (records, known, over) = (
      records,
      known,
      (Ok over.rows, sym over.are, answers over.rows (over.taken.passed at certificate fresh)),
    )

module _ {X : Type 0} (Is : PriceCertificate → List Row → Result X StreamFault → Type 0) (octets : List ℕ)
    (records : List Fields) where
  -- the certificate is at fault
  pub certificate_stops : (e : Fault) → IsCertificateIn octets (Err e)
      → AnswersText Is octets (Err (fault_of_input e)) records
  certificate_stops e is = (Err (fault_of_input e), (Err e, is, refl), refl)

  -- it is read, and asked
  pub text_is : (certificate : PriceCertificate) (answer : Result X StreamFault)
      → IsCertificateIn octets (Ok certificate) → AnswersRecords (Is certificate) answer records
      → AnswersText Is octets answer records
  text_is certificate answer is asked = (Ok certificate, (Ok certificate, is, refl), asked)

module _ {X : Type 0} (By : Answering X) (inputs : Inputs) (records : List Fields) where
  -- an input is at fault
  pub inputs_stop : (e : Fault) → IsInstanceOf inputs (Err e) → AnswersBy By inputs (Err (fault_of_input e)) records
  inputs_stop e is = (Err (fault_of_input e), (Err e, is, refl), refl)

  -- they are read, and it is asked by them
  pub inputs_are : (it : Instance) (answer : Result X StreamFault) → IsInstanceOf inputs (Ok it)
      → AnswersService By inputs records it answer → AnswersBy By inputs answer records
  inputs_are it answer is asked = (Ok it, (Ok it, is, refl), asked)

  -- so it is by an instance that was read
  pub read_is : (answer : Result X StreamFault) → AnswersReadBy By inputs answer records
      → AnswersBy By inputs answer records
  read_is answer (it, read, asked) = inputs_are it answer read.is asked
