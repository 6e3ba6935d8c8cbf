-- What the parts of a run answer, in the terms of the run.
use Rattle.std.specs.Prelude.{◌≡◌, ◌≢◌, ◌⊎◌, Result, Ok, Err}
use Rattle.hsp_inputs.specs.declared.fault.Fault.{Fault}
use Rattle.hsp_inputs.specs.declared.fault.Fault.TheVariants.{OutOfMemory}

-- where memory ran out for the part it did so for the run, and any other fault of the part has a name in the run
abbrev pub IsNamedFault : {F : Type 0} → (F → Fault → Type 0) → F → F → Fault → Type 0
IsNamedFault Names memory fault named =
    ((fault ≡ memory) × (named ≡ OutOfMemory)) ⊎ ((fault ≢ memory) × Names fault named)

-- the answer of the run has the value of the part's, or its fault by that name
abbrev pub IsNamed : {X F : Type 0} → (F → Fault → Type 0) → F → Result X F → Result X Fault → Type 0
IsNamed Names memory (Ok x) answer = answer ≡ Ok x
IsNamed Names memory (Err fault) (Ok x) = ⊥
IsNamed Names memory (Err fault) (Err named) = IsNamedFault Names memory fault named
