-- Plans of rows by rounds over their groups.
use Rattle.std.specs.Prelude.{◌<◌, ◌^◌, ⊤, List}
use Rattle.hsp_tables.specs.Costs.{AreCosts}
use Rattle.hsp_instance.specs.Instance.{Row}
use Rattle.hsp_prices.specs.Rows.{Service}
use Rattle.hsp_price_text.specs.declared.certificate.PriceCertificate.{PriceCertificate}
use Rattle.hsp_prices.specs.Shown.{IsService}
use Rattle.hsp_prices.specs.Verdict.{IsVerdict}
use Rattle.hsp_prices.specs.declared.verdict.PriceVerdict.TheVariants.{Yes}
use Rattle.hsp_prices.specs.KeptRows.{KeptRow, loose_of}
use Rattle.hsp_prices.specs.Solved.{AreRows}
use Rattle.hsp_price_check.specs.PlanPass.{AreNumbersOf}
use Rattle.hsp_price_check.specs.declared.numbers.ServiceNumbers.{ServiceNumbers}
use Rattle.hsp_price_plan.specs.Grouping.{asked_in}
use Rattle.hsp_price_plan.specs.Limits.{AreTooLarge}
use Rattle.hsp_price_plan.specs.declared.fault.PlanFault.{PlanFault}
use Rattle.hsp_price_plan.specs.declared.fault.PlanFault.TheVariants as fault
use Rattle.hsp_price_plan.specs.declared.rounds.RoundEnd.{RoundEnd}
use Rattle.hsp_price_plan.specs.declared.rounds.RoundEnd.TheVariants as end

-- rows of a service, which ask for fewer than 2^63 queries together
pub record AreHeld (numbers : ServiceNumbers) (at : Service) (rows : List Row) (kept : List KeptRow) : Type 0 where
  pub service : IsService at
  pub costs : AreCosts at.costs
  pub numbers_are : AreNumbersOf at numbers
  pub rows_are : AreRows at rows kept
  pub demand : asked_in kept < 2 ^ 63

-- they are those of some service
abbrev pub AreOfSome : ServiceNumbers → List KeptRow → Type 0
AreOfSome numbers kept = (at : Service) × (rows : List Row) × AreHeld numbers at rows kept

-- a certificate is valid for the rows, whichever service they are of
abbrev pub IsValidFor : ServiceNumbers → List KeptRow → PriceCertificate → Type 0
IsValidFor numbers kept certificate =
    (at : Service) (rows : List Row) → AreHeld numbers at rows kept → IsVerdict at rows certificate Yes

-- rows are still those of whatever service they were
abbrev pub Outlasts : ServiceNumbers → List KeptRow → List KeptRow → Type 0
Outlasts numbers old new = (at : Service) (rows : List Row) → AreHeld numbers at rows old → AreHeld numbers at rows new

-- a round comes to a valid certificate, or rows keep more arcs
abbrev pub IsRoundEnd : ServiceNumbers → List KeptRow → List KeptRow → RoundEnd → Type 0
IsRoundEnd numbers old new (end.Shown certificate) = IsValidFor numbers old certificate
IsRoundEnd numbers old new (end.Kept arcs) = loose_of new < loose_of old

-- TooLarge: so the rows are, whichever service they are of
abbrev pub IsFaultOf : ServiceNumbers → List KeptRow → PlanFault → Type 0
IsFaultOf numbers kept fault.OutOfMemory = ⊤
IsFaultOf numbers kept fault.TooLarge =
    (at : Service) (rows : List Row) → AreHeld numbers at rows kept → AreTooLarge at rows
