-- Reports by certificates by prices.
use Rattle.std.specs.Prelude.{◌≡◌, ◌⊎◌, ℕ, List, Option, Ok, Err}
use Rattle.hsp_prices.specs.declared.verdict.PriceVerdict.TheVariants.{No}
use Rattle.hsp_cli.specs.declared.failure.Failure.TheVariants.{Refused}
use Rattle.hsp_price_report.specs.declared.kind.PriceReportKind.{PriceReportKind}
use Rattle.hsp_price_runs.specs.PriceReport.{IsPriceReport}
use Rattle.hsp_price_runs.specs.declared.report.PriceReport.{PriceReport}
use Rattle.hsp_price_runs.specs.declared.report.PriceReport.TheVariants as report
use Rattle.hsp_log.specs.LogRows.{OfLog}
use Rattle.hsp_inputs.specs.Stopping.{MayStopReading}
use Rattle.hsp_inputs.specs.declared.stream_fault.StreamFault.{StreamFault}
use Rattle.hsp_stream_cli.specs.Checking.{PrintsLine}
use Rattle.hsp_stream_cli.specs.Printing.{Ended, PrintsText}
use Rattle.hsp_stream_cli.specs.declared.files.Priced.{Priced}

-- the report of a kind by a certificate, for a log with these octets left, where they are known
abbrev pub IsShownReport : Priced → PriceReportKind → Option (List ℕ) → PriceReport → Type 0
IsShownReport priced kind left report =
    OfLog left (λ records. IsPriceReport kind priced.inputs priced.prices.items records (Ok report))

-- why there is none
abbrev pub IsReportFault : Type 0 → Priced → PriceReportKind → Option (List ℕ) → StreamFault → Type 0
IsReportFault MayReadFail priced kind left fault =
    MayStopReading MayReadFail fault
    ⊎ OfLog left (λ records. IsPriceReport kind priced.inputs priced.prices.items records (Err fault))

-- the text is printed with status 0; or the line of a no with its reason, and the status of a no
abbrev pub PrintsShown : Type 0 → PriceReport → Option (List ℕ) → Option (List ℕ) → Ended → Type 0
PrintsShown MayFail (report.Shown text) old new ended = PrintsText MayFail text.items old new ended
PrintsShown MayFail (report.Refused reason) old new ended = PrintsLine MayFail (No reason) old new ended

-- the report is printed; or nothing was written, and its fault is returned
abbrev pub PrintsReport : Type 0 → Type 0 → Priced → PriceReportKind → Option (List ℕ) → Option (List ℕ)
    → Option (List ℕ) → Ended → Type 0
PrintsReport MayReadFail MayFail priced kind left old new ended =
    ((report : PriceReport) × IsShownReport priced kind left report × PrintsShown MayFail report old new ended)
    ⊎ ((fault : StreamFault) × IsReportFault MayReadFail priced kind left fault × (new ≡ old)
    × (ended ≡ Err (Refused fault)))
