-- How a log is answered on an output.
use Rattle.std.specs.Prelude.{◌≡◌, ◌⊎◌, ⊤, ℕ, List, Option, Some, None, Result, Ok, Err}
use Rattle.std.specs.Io.KnownBytes.{Keeps}
use Rattle.hsp_dispatch.specs.declared.answer.FrontSums.{FrontSums}
use Rattle.hsp_dispatch.specs.declared.answer.LogSums.{LogSums}
use Rattle.hsp_log.specs.declared.fault.LogFault.TheVariants.{WriteFailed}
use Rattle.hsp_runs.specs.Dispatch.{IsBeforeLog, IsDispatched, IsDispatchedAt, over}
use Rattle.hsp_inputs.specs.declared.fault.Fault.{Fault}
use Rattle.hsp_inputs.specs.declared.fault.Fault.TheVariants.{Log, OutOfMemory}
use Rattle.hsp_inputs.specs.declared.inputs.Inputs.{Inputs}
use Rattle.hsp_cli.specs.declared.failure.Failure.TheVariants.{Refused}
use Rattle.hsp_cli.specs.Printing.{Ended, IsFailedWrite}

-- what a log is answered by, and what of the log is left to be read, where that is known
pub record Opened : Type 0 where
  pub inputs : Inputs
  pub certificate : List ℕ
  pub left : Option (List ℕ)

abbrev pub opened_log : Inputs → List ℕ → Option (List ℕ) → Opened
opened_log inputs certificate left = record { inputs = inputs; certificate = certificate; left = left }

-- lines may have been written before the fault: it is the log's, or memory ran out
abbrev pub MayFollowLines : Fault → Type 0
MayFollowLines (Log fault) = ⊤
MayFollowLines OutOfMemory = ⊤
MayFollowLines fault = ⊥

-- no lines are to be handed on: the fault comes before the log, or a write failed
abbrev pub LeavesNoLines : Fault → Type 0
LeavesNoLines fault = IsBeforeLog fault ⊎ IsFailedWrite (Refused fault)

-- the fault is reported, and nothing else was done; or lines that may stand before it were handed on, and it is
-- reported, or that they couldn't be handed on, as may be
abbrev pub HandsOn : Type 0 → Fault → Option (List ℕ) → Option (List ℕ) → Fault → Type 0
HandsOn MayFail fault written new reported =
    ((new ≡ written) × (reported ≡ fault))
    ⊎ (MayFollowLines fault × Keeps written new × ((reported ≡ fault) ⊎ (MayFail × (reported ≡ Log WriteFailed))))

-- the last lines were handed on, and the run's sums are reported with status 0; or the last lines couldn't be handed
-- on, as may be
abbrev pub Completes : Type 0 → Option LogSums → Option (List ℕ) → Option (List ℕ) → Ended → Type 0
Completes MayFail sums written new ended =
    Keeps written new
    × ((ended ≡ Ok (record { status = 0; sums = sums })) ⊎ (MayFail × (ended ≡ Err (Refused (Log WriteFailed)))))

-- the run's sums are reported, or its fault is
abbrev pub ReportsRun : {S : Type 0} → (S → Option LogSums) → Type 0 → Result S Fault → Option (List ℕ)
    → Option (List ℕ) → Ended → Type 0
ReportsRun sums_of MayFail (Ok sums) written new ended = Completes MayFail (sums_of sums) written new ended
ReportsRun sums_of MayFail (Err fault) written new ended =
    (reported : Fault) × HandsOn MayFail fault written new reported × (ended ≡ Err (Refused reported))

-- the log's entries were answered on an output, and the run's end is reported
abbrev pub AnswersEntries : Type 0 → Opened → Option (List ℕ) → Option (List ℕ) → Ended → Type 0
AnswersEntries MayFail it old new ended =
    (written : Option (List ℕ)) × (answer : Result LogSums Fault)
    × IsDispatched it.inputs it.certificate (over it.left old written) answer
    × ReportsRun Some MayFail answer written new ended

-- the same of its events, by as many fronts as a word spells; no sums are reported
abbrev pub AnswersEvents : Type 0 → List ℕ → Opened → Option (List ℕ) → Option (List ℕ) → Ended → Type 0
AnswersEvents MayFail word it old new ended =
    (written : Option (List ℕ)) × (answer : Result FrontSums Fault)
    × IsDispatchedAt word it.inputs it.certificate (over it.left old written) answer
    × ReportsRun (λ sums. None) MayFail answer written new ended

-- with a number of fronts, or without one
abbrev pub Dispatches : Type 0 → Option (List ℕ) → Opened → Option (List ℕ) → Option (List ℕ) → Ended → Type 0
Dispatches MayFail None it old new ended = AnswersEntries MayFail it old new ended
Dispatches MayFail (Some word) it old new ended = AnswersEvents MayFail word it old new ended
