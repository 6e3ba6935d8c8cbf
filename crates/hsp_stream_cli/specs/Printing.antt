-- Texts on an output.
use Rattle.std.specs.Prelude.{◌≡◌, ◌⊎◌, ⊤, ℕ, List, Option, None, Result, Ok, Err}
use Rattle.std.specs.Io.KnownBytes.{Appends}
use Rattle.hsp_cli.specs.declared.answer.Completed.{Completed}
use Rattle.hsp_cli.specs.declared.failure.Failure.{Failure}
use Rattle.hsp_cli.specs.declared.failure.Failure.TheVariants.{Refused, Write}
use Rattle.hsp_talk.specs.Writing.{IsBegun}
use Rattle.hsp_price_answers.specs.declared.sums.PriceSums.{PriceSums}
use Rattle.hsp_log.specs.declared.fault.RowFault.TheVariants.{WriteFailed}
use Rattle.hsp_inputs.specs.declared.stream_fault.StreamFault.{StreamFault}
use Rattle.hsp_inputs.specs.declared.stream_fault.StreamFault.TheVariants.{Log}

-- how a command ended: as it was carried out, or by a failure
abbrev pub Ended : Type 0
Ended = Result (Completed PriceSums) (Failure StreamFault)

-- the text was written, and this status returned; or a write failed, as it may, and a beginning of the text was
-- written
abbrev pub PrintsWith : ℕ → Type 0 → List ℕ → Option (List ℕ) → Option (List ℕ) → Ended → Type 0
PrintsWith status MayFail text old new (Ok completed) =
    Appends old new text × (completed ≡ record { status = status; sums = None })
PrintsWith status MayFail text old new (Err Write) = MayFail × IsBegun old new text
PrintsWith status MayFail text old new (Err failure) = ⊥

-- the same with status 0
abbrev pub PrintsText : Type 0 → List ℕ → Option (List ℕ) → Option (List ℕ) → Ended → Type 0
PrintsText MayFail text old new ended = PrintsWith 0 MayFail text old new ended

-- a failed write is reported
abbrev pub IsFailedWrite : Ended → Type 0
IsFailedWrite (Err Write) = ⊤
IsFailedWrite (Err (Refused (Log WriteFailed))) = ⊤
IsFailedWrite ended = ⊥

-- nothing was written; or what the output holds was handed on; or a write failed
abbrev pub IsHandedOn : Option (List ℕ) → Option (List ℕ) → Option (List ℕ) → Option (List ℕ) → Ended → Type 0
IsHandedOn contents_before handed_before contents handed ended =
    ((contents ≡ contents_before) × (handed ≡ handed_before)) ⊎ (handed ≡ contents) ⊎ IsFailedWrite ended
