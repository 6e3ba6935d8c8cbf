-- What the parts of a run answered.
use Rattle.std.proofs.Common.{◌≡◌, Result, Ok, Err}
use Rattle.hsp_inputs.specs.declared.fault.Fault.{Fault}
use Rattle.hsp_inputs.specs.Parts.{IsNamed}

-- a value in the answer of the run is the part's
pub same_value : {X F : Type 0} (Names : F → Fault → Type 0) (memory : F) (read : Result X F) (value : X)
    → IsNamed Names memory read (Ok value) → read ≡ Ok value
same_value Names memory (Ok x) value is = cc is
same_value Names memory (Err fault) value is = absurd is
