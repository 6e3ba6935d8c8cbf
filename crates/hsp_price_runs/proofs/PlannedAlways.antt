-- Rows that are known are planned.
use Rattle.std.proofs.Common.{◌⊎◌, inl, inr, ℕ, List, Option, Some, None, Result, Ok, Err, IfErr, IfOk, subst}
use Rattle.hsp_csv.specs.Records.{Fields, records_of}
use Rattle.hsp_inputs.specs.HeadlineLaws.{GivesNothingElse}
use Rattle.hsp_inputs.specs.declared.inputs.Inputs.{Inputs}
use Rattle.hsp_price_check.specs.Classes.{service_of}
use Rattle.hsp_price_runs.specs.PriceAlways.{HasRows}
use Rattle.hsp_price_runs.proofs.Known.{known_rows, known_service}
use Rattle.hsp_log.specs.LogRows.{OfLog}
use Rattle.hsp_inputs.specs.Stopping.{MayStopReading}
use Rattle.hsp_inputs.specs.declared.stream_fault.StreamFault.{StreamFault}
use Rattle.hsp_price_runs.specs.PlanAlways.{PlansAlways}
use Rattle.hsp_price_runs.specs.PlanRun.{IsPlanBy, IsPlannedLog, IsShownPlan, PlansRecords}
use Rattle.hsp_price_runs.specs.declared.prices_text.PricesText.{PricesText}

module _ (only : GivesNothingElse) (inputs : Inputs) where
  -- what is answered of a log is answered of its rows
  known_plan : (records : List Fields) (answer : Result PricesText StreamFault) (has : HasRows inputs records)
      → IsPlannedLog inputs answer records → IsPlanBy (service_of has.costs has.it) has.rows answer
  known_plan records answer has planned =
      let at = service_of has.costs has.it in
      known_rows (IsPlanBy at) answer records has.rows has.are_rows
      (known_service only PlansRecords inputs answer records has planned)

  -- so a run plans them
  pub plans : (MayFail : Type 0) (log : Option (List ℕ)) (answer : Result PricesText StreamFault)
      → IfOk answer (λ text. OfLog log (IsShownPlan inputs text))
      → IfErr answer (λ fault. MayStopReading MayFail fault ⊎ OfLog log (IsPlannedLog inputs (Err fault)))
      → PlansAlways MayFail inputs log answer
  plans MayFail None answer shown stopped = tt
  plans MayFail (Some log) (Ok text) (records, same, is) stopped = λ has.
      known_plan (records_of log) (Ok text) has
      (subst (λ r. IsPlannedLog inputs (Ok text) r) same is.planned)
  plans MayFail (Some log) (Err fault) shown (inl stops) = λ has. inl stops
  plans MayFail (Some log) (Err fault) shown (inr (records, same, is)) = λ has.
      inr
      (known_plan (records_of log) (Err fault) has
      (subst (λ r. IsPlannedLog inputs (Err fault) r) same is))
