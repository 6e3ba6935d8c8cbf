-- Plans of logs by prices.
use Rattle.std.specs.Prelude.{◌≡◌, ◌⊎◌, ℕ, List, Option, Err}
use Rattle.hsp_cli.specs.declared.failure.Failure.TheVariants.{Refused}
use Rattle.hsp_inputs.specs.declared.inputs.Inputs.{Inputs}
use Rattle.hsp_price_runs.specs.PlanRun.{IsPlannedLog, IsShownPlan}
use Rattle.hsp_price_runs.specs.PricesText.{octets_of}
use Rattle.hsp_price_runs.specs.declared.prices_text.PricesText.{PricesText}
use Rattle.hsp_price_runs.specs.declared.prices_text.PricesText.TheVariants as text
use Rattle.hsp_log.specs.LogRows.{OfLog}
use Rattle.hsp_inputs.specs.Stopping.{MayStopReading}
use Rattle.hsp_inputs.specs.declared.stream_fault.StreamFault.{StreamFault}
use Rattle.hsp_stream_cli.specs.Printing.{Ended, PrintsWith}

-- 0 for a plan, 3 for a shortage
abbrev pub status_of : PricesText → ℕ
status_of (text.Plan octets) = 0
status_of (text.Shortage octets) = 3

-- why there is no plan for a log with these octets left, where they are known
abbrev pub IsPlanFault : Type 0 → Inputs → Option (List ℕ) → StreamFault → Type 0
IsPlanFault MayReadFail inputs left fault =
    MayStopReading MayReadFail fault ⊎ OfLog left (IsPlannedLog inputs (Err fault))

-- The text of a certificate is printed. The check says yes to it, and it shows a best plan of the log's rows, or that
-- there is none. Or nothing was written, and the fault is returned.
abbrev pub PrintsPlan : Type 0 → Type 0 → Inputs → Option (List ℕ) → Option (List ℕ) → Option (List ℕ) → Ended
    → Type 0
PrintsPlan MayReadFail MayFail inputs left old new ended =
    ((text : PricesText) × OfLog left (IsShownPlan inputs text)
    × PrintsWith (status_of text) MayFail (octets_of text) old new ended)
    ⊎ ((fault : StreamFault) × IsPlanFault MayReadFail inputs left fault × (new ≡ old) × (ended ≡ Err (Refused fault)))
