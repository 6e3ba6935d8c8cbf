-- What the steps of a reading answer.
use Rattle.std.proofs.Common.{◌≡◌, Result, Ok, Err}
use Rattle.hsp_text.specs.Answers.{Then, fault_as}
use Rattle.hsp_instance.specs.Building.{Inputs, IsBuilt}
use Rattle.hsp_instance.specs.Instance.{Instance}
use Rattle.hsp_instance.specs.declared.fault.BuildFault.{BuildFault}
use Rattle.hsp_inputs.specs.declared.fault.Fault.TheVariants.{Build}

-- what the second of two steps answers, the first gave rise to
pub went_on : {A B E : Type 0} (First : Result A E → Type 0) (Next : A → Result B E → Type 0) (b : B)
    → Then First Next (Ok b)
    → (a : A) × First (Ok a) × Next a (Ok b)
went_on First Next b (Ok a, first, next) = (a, first, next)
went_on First Next b (Err e, first, same) = absurd (cc same)

-- an instance that was passed on is the one that was built
pub built_so : (read : Inputs) (it : Instance) (built : Result Instance BuildFault) → IsBuilt read built
    → Ok it ≡ fault_as Build built → IsBuilt read (Ok it)
built_so read it (Ok other) is same = let one : it ≡ other = cc same in rw one is
built_so read it (Err e) is same = absurd (cc same)
