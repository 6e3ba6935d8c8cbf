-- What a command has written where it ends.
use Rattle.std.specs.Prelude.{◌≡◌, ◌⊎◌, ⊤, ℕ, List, Option, None, Result, Ok, Err}
use Rattle.std.specs.Io.KnownBytes.{Appends}
use Rattle.hsp_talk.specs.Writing.{IsBegun}
use Rattle.hsp_dispatch.specs.declared.answer.LogSums.{LogSums}
use Rattle.hsp_log.specs.declared.fault.LogFault.TheVariants as log_fault
use Rattle.hsp_inputs.specs.declared.fault.Fault.{Fault}
use Rattle.hsp_inputs.specs.declared.fault.Fault.TheVariants.{Log}
use Rattle.hsp_cli.specs.Answers.{Answered}
use Rattle.hsp_cli.specs.declared.answer.Answer.{Answer}
use Rattle.hsp_cli.specs.declared.answer.Completed.{Completed}
use Rattle.hsp_cli.specs.declared.failure.Failure.{Failure}
use Rattle.hsp_cli.specs.declared.failure.Failure.TheVariants.{Refused, Write}

-- how a command ended: as it was carried out, or by a failure
abbrev pub Ended : Type 0
Ended = Result (Completed LogSums) (Failure Fault)

-- the text of an answer was written, and its status returned; or a write failed, as it may, and a beginning of the text
-- was written
abbrev pub PrintsText : Type 0 → Answer → Option (List ℕ) → Option (List ℕ) → Ended → Type 0
PrintsText MayFail answer old new (Ok completed) =
    Appends old new answer.text.items × (completed ≡ record { status = answer.status; sums = None })
PrintsText MayFail answer old new (Err Write) = MayFail × IsBegun old new answer.text.items
PrintsText MayFail answer old new (Err failure) = ⊥

-- the same of an answer; where there is none, nothing was written, and its failure is returned
abbrev pub Prints : Type 0 → Answered → Option (List ℕ) → Option (List ℕ) → Ended → Type 0
Prints MayFail (Ok answer) old new ended = PrintsText MayFail answer old new ended
Prints MayFail (Err failure) old new ended = (new ≡ old) × (ended ≡ Err failure)

-- a write failed
abbrev pub IsFailedWrite : Failure Fault → Type 0
IsFailedWrite Write = ⊤
IsFailedWrite (Refused (Log log_fault.WriteFailed)) = ⊤
IsFailedWrite failure = ⊥

-- What an output holds was handed on. Where the command failed, the output is as it was, or it was handed on, or a
-- write failed.
abbrev pub IsHandedOn : {O : Type 0} → O → O → Option (List ℕ) → Option (List ℕ) → Ended → Type 0
IsHandedOn old new contents handed (Ok completed) = handed ≡ contents
IsHandedOn old new contents handed (Err failure) = (new ≡ old) ⊎ (handed ≡ contents) ⊎ IsFailedWrite failure
