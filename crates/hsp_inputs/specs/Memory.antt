-- What a run answers.
use Rattle.std.specs.Prelude.{◌≡◌, Result, Ok, Err}
use Rattle.hsp_text.specs.Answers.{Stands}
use Rattle.hsp_inputs.specs.declared.fault.Fault.{Fault}
use Rattle.hsp_inputs.specs.declared.fault.Fault.TheVariants.{OutOfMemory}

-- an answer that the relation has, or memory ran out
abbrev pub OrNoMemory : {X : Type 0} → (Result X Fault → Type 0) → Result X Fault → Type 0
OrNoMemory Is answer = Stands OutOfMemory (λ x. x) Is answer

-- this value, or memory ran out
abbrev pub IsOrNoMemory : {X : Type 0} → X → Result X Fault → Type 0
IsOrNoMemory value (Ok given) = given ≡ value
IsOrNoMemory value (Err fault) = fault ≡ OutOfMemory
