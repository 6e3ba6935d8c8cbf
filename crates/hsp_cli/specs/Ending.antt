-- How a program ends: what it has written, and with which status.
use Rattle.std.specs.Prelude.{◌≡◌, ◌⊎◌, ◌++◌, ◌∷◌, [], ℕ, List, Option, Some, None, Vec, Result, Ok, Err, codes}
use Rattle.std.specs.declared.alloc.Global.{Global}
use Rattle.std.specs.declared.alloc.AllocError.{AllocError}
use Rattle.std.specs.Io.KnownBytes.{Appends}
use Rattle.hsp_cli.specs.declared.answer.Completed.{Completed}
use Rattle.hsp_cli.specs.declared.failure.Failure.{Failure}
use Rattle.hsp_cli.specs.declared.failure.Failure.TheVariants.{Usage, Memory, Read, Write, Refused}
use Rattle.hsp_talk.specs.Writing.{IsBegun}

-- the line that memory ran out
abbrev pub memory_text : List ℕ → List ℕ
memory_text name = name ++ (codes ": OutOfMemory" ++ 10 ∷ [])

-- the line of a failure that no run has, with the program's name before it
abbrev pub own_text : {F : Type 0} → List ℕ → Failure F → List ℕ
own_text name Usage = name ++ (codes ": Usage" ++ 10 ∷ [])
own_text name Memory = memory_text name
own_text name Read = name ++ (codes ": read failed" ++ 10 ∷ [])
own_text name Write = name ++ (codes ": write failed" ++ 10 ∷ [])
own_text name (Refused fault) = []

-- the status after a failure, by the statuses of faults
abbrev pub failure_status : {F : Type 0} → (F → ℕ) → Failure F → ℕ
failure_status status_of Usage = 2
failure_status status_of Memory = 4
failure_status status_of Read = 5
failure_status status_of Write = 5
failure_status status_of (Refused fault) = status_of fault

-- the line of a log's sums, where there are some
abbrev pub sums_line : {S : Type 0} → (S → List ℕ) → Option S → List ℕ
sums_line text_of None = []
sums_line text_of (Some sums) = text_of sums

-- the line that is printed at the end: that of a fault, or that of the sums of a log
abbrev pub last_text : {S F : Type 0} → (F → List ℕ) → (S → List ℕ) → Result (Completed S) (Failure F) → List ℕ
last_text fault_text sums_text (Ok completed) = sums_line sums_text completed.sums
last_text fault_text sums_text (Err (Refused fault)) = fault_text fault
last_text fault_text sums_text (Err failure) = []

-- the line is written and the status is the one that goes with it; or a write failed, as it may, a beginning of the
-- line was written, and the status is 5
abbrev pub ReportsBy : Type 0 → List ℕ → ℕ → Option (List ℕ) → Option (List ℕ) → ℕ → Type 0
ReportsBy MayFail line wanted old new status =
    (Appends old new line × (status ≡ wanted)) ⊎ (MayFail × IsBegun old new line × (status ≡ 5))

-- what the output holds was handed on; or a write failed, as it may, and the status is 5
abbrev pub IsHandedWith : Type 0 → Option (List ℕ) → Option (List ℕ) → ℕ → Type 0
IsHandedWith MayFail contents handed status = (handed ≡ contents) ⊎ (MayFail × (status ≡ 5))

abbrev pub Line : Type 0
Line = Result (Vec ℕ Global) AllocError

-- the line is printed; in place of one for which memory ran out, that it ran out
abbrev pub ReportsLine : Type 0 → List ℕ → Line → ℕ → Option (List ℕ) → Option (List ℕ) → ℕ → Type 0
ReportsLine MayFail name (Ok line) wanted old new status = ReportsBy MayFail line.items wanted old new status
ReportsLine MayFail name (Err lacking) wanted old new status = ReportsBy MayFail (memory_text name) 4 old new status

-- the failure is reported, a fault by the line
abbrev pub Reports : {F : Type 0} → Type 0 → List ℕ → (F → ℕ) → Failure F → Line → Option (List ℕ) → Option (List ℕ)
    → ℕ → Type 0
Reports MayFail name status_of (Refused fault) line old new status =
    ReportsLine MayFail name line (status_of fault) old new status
Reports MayFail name status_of failure line old new status =
    ReportsBy MayFail (own_text name failure) (failure_status status_of failure) old new status

-- the sums of a log are printed by the line; without sums, nothing is
abbrev pub ReportsSums : {S : Type 0} → Type 0 → List ℕ → Option S → Line → ℕ → Option (List ℕ) → Option (List ℕ) → ℕ
    → Type 0
ReportsSums MayFail name (Some sums) line wanted old new status = ReportsLine MayFail name line wanted old new status
ReportsSums MayFail name None line wanted old new status = (new ≡ old) × (status ≡ wanted)

-- after an answer its status, and the sums of a log are printed; or a failure is reported
abbrev pub Ends : {S F : Type 0} → Type 0 → List ℕ → (F → ℕ) → Result (Completed S) (Failure F) → Line
    → Option (List ℕ) → Option (List ℕ) → ℕ → Type 0
Ends MayFail name status_of (Ok completed) line old new status =
    ReportsSums MayFail name completed.sums line completed.status old new status
Ends MayFail name status_of (Err failure) line old new status =
    Reports MayFail name status_of failure line old new status
