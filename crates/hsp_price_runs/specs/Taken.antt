-- Rows that were taken from a log, and a plan of them.
use Rattle.std.specs.Prelude.{◌≡◌, ◌⊎◌, List, [], ◌≤◌}
use Rattle.hsp_tables.specs.Costs.{AreCosts}
use Rattle.hsp_instance.specs.Instance.{Row}
use Rattle.hsp_prices.specs.Rows.{Service}
use Rattle.hsp_prices.specs.Shown.{IsService}
use Rattle.hsp_prices.specs.Verdict.{IsVerdict}
use Rattle.hsp_prices.specs.declared.verdict.PriceVerdict.TheVariants.{Yes}
use Rattle.hsp_prices.specs.KeptRows.{KeptRow}
use Rattle.hsp_prices.specs.Solved.{AreRows}
use Rattle.hsp_price_check.specs.PlanPass.{AreNumbersOf}
use Rattle.hsp_price_check.specs.declared.numbers.ServiceNumbers.{ServiceNumbers}
use Rattle.hsp_price_text.specs.declared.certificate.PriceCertificate.{PriceCertificate}
use Rattle.hsp_price_plan.specs.Limits.{AreTooLarge}
use Rattle.hsp_price_plan.specs.declared.fault.PlanFault.{PlanFault}
use Rattle.hsp_price_plan.specs.declared.fault.PlanFault.TheVariants as plan_fault
use Rattle.hsp_inputs.specs.declared.stream_fault.StreamFault.{StreamFault}
use Rattle.hsp_inputs.specs.declared.stream_fault.StreamFault.TheVariants.{OutOfMemory, TooLarge}
use Rattle.hsp_price_runs.specs.PlanRun.{AskTooMuch}

-- the rows in memory are those of the service
pub record AreTaken (numbers : ServiceNumbers) (at : Service) (rows : List Row) (kept : List KeptRow) : Type 0 where
  pub service : IsService at
  pub costs : AreCosts at.costs
  pub numbers_are : AreNumbersOf at numbers
  pub rows_are : AreRows at rows kept

abbrev pub AreTakenOfSome : ServiceNumbers → List KeptRow → Type 0
AreTakenOfSome numbers kept = (at : Service) × (rows : List Row) × AreTaken numbers at rows kept

-- a certificate is valid for them, whichever service they are of
abbrev pub IsValidForAll : ServiceNumbers → List KeptRow → PriceCertificate → Type 0
IsValidForAll numbers kept certificate =
    (at : Service) (rows : List Row) → AreTaken numbers at rows kept → IsVerdict at rows certificate Yes

-- memory ran out; or they ask for too much, or are too large for a certificate
abbrev pub IsTakenFault : ServiceNumbers → List KeptRow → StreamFault → Type 0
IsTakenFault numbers kept fault =
    (fault ≡ OutOfMemory)
    ⊎ ((fault ≡ TooLarge)
    × ((at : Service) (rows : List Row) → AreTaken numbers at rows kept → AskTooMuch rows ⊎ AreTooLarge at rows))

abbrev pub fault_of_plan : PlanFault → StreamFault
fault_of_plan plan_fault.TooLarge = TooLarge
fault_of_plan plan_fault.OutOfMemory = OutOfMemory
