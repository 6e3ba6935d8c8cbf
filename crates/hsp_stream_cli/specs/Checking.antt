-- Verdicts on certificates by prices.
use Rattle.std.specs.Prelude.{◌≡◌, ◌⊎◌, ℕ, List, Option, Ok, Err}
use Rattle.hsp_prices.specs.declared.verdict.PriceVerdict.{PriceVerdict}
use Rattle.hsp_prices.specs.declared.verdict.PriceVerdict.TheVariants.{Yes}
use Rattle.hsp_cli.specs.declared.failure.Failure.TheVariants.{Memory, Refused}
use Rattle.hsp_price_runs.specs.PriceRun.{IsPriceVerdict}
use Rattle.hsp_price_runs.specs.PricesShown.{ShowsLog}
use Rattle.hsp_price_runs.specs.PriceVerdictText.{verdict_status, verdict_text}
use Rattle.hsp_log.specs.LogRows.{OfLog}
use Rattle.hsp_inputs.specs.Stopping.{MayStopReading}
use Rattle.hsp_inputs.specs.declared.stream_fault.StreamFault.{StreamFault}
use Rattle.hsp_stream_cli.specs.Printing.{Ended, PrintsWith}
use Rattle.hsp_stream_cli.specs.declared.files.Priced.{Priced}

-- the verdict on a certificate for a log with these octets left, where they are known; Yes shows a best plan of the
-- log's rows, or that there is none
abbrev pub IsShownVerdict : Priced → Option (List ℕ) → PriceVerdict → Type 0
IsShownVerdict priced left verdict =
    OfLog left (λ records. IsPriceVerdict priced.inputs priced.prices.items records (Ok verdict))
    × (verdict ≡ Yes → OfLog left (ShowsLog priced.inputs priced.prices.items))

-- why there is none
abbrev pub IsVerdictFault : Type 0 → Priced → Option (List ℕ) → StreamFault → Type 0
IsVerdictFault MayReadFail priced left fault =
    MayStopReading MayReadFail fault
    ⊎ OfLog left (λ records. IsPriceVerdict priced.inputs priced.prices.items records (Err fault))

-- the line of a verdict is printed, and its status returned; or nothing was written, since memory ran out
abbrev pub PrintsLine : Type 0 → PriceVerdict → Option (List ℕ) → Option (List ℕ) → Ended → Type 0
PrintsLine MayFail verdict old new ended =
    ((new ≡ old) × (ended ≡ Err Memory))
    ⊎ PrintsWith (verdict_status verdict) MayFail (verdict_text verdict) old new ended

-- the verdict is printed; or nothing was written, and its fault is returned
abbrev pub PrintsVerdict : Type 0 → Type 0 → Priced → Option (List ℕ) → Option (List ℕ) → Option (List ℕ) → Ended
    → Type 0
PrintsVerdict MayReadFail MayFail priced left old new ended =
    ((verdict : PriceVerdict) × IsShownVerdict priced left verdict × PrintsLine MayFail verdict old new ended)
    ⊎ ((fault : StreamFault) × IsVerdictFault MayReadFail priced left fault × (new ≡ old)
    × (ended ≡ Err (Refused fault)))
