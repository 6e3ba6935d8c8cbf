-- The instance of inputs with a certificate that is accepted for it, and the kind of certificate that is wanted.
use Rattle.std.specs.Prelude.{◌≡◌, ℕ, List, Result, Ok, Err}
use Rattle.hsp_text.specs.Answers.{Then}
use Rattle.hsp_instance.specs.Instance.{Instance}
use Rattle.hsp_cert.specs.Certificate.{Best, Claim, Short}
use Rattle.hsp_cert.specs.Certificate.Claim.{best, short}
use Rattle.hsp_check.specs.Instance.{network_of}
use Rattle.hsp_check.specs.Valid.{IsValid}
use Rattle.hsp_check.specs.Verdict.{IsVerdict}
use Rattle.hsp_check.specs.declared.verdict.Verdict.TheVariants.{No}
use Rattle.hsp_runs.specs.Check.{IsCertificate}
use Rattle.hsp_inputs.specs.Instance.{IsInstanceOf}
use Rattle.hsp_runs.specs.declared.accepted.Accepted.{Accepted}
use Rattle.hsp_inputs.specs.declared.fault.Fault.{Fault}
use Rattle.hsp_inputs.specs.declared.fault.Fault.TheVariants.{Refused, WrongKind}
use Rattle.hsp_inputs.specs.declared.inputs.Inputs.{Inputs}

-- the instance with the claim, where that is valid for it, otherwise the first reason why it isn't
abbrev pub IsAccepted : Instance → Claim → Result Accepted Fault → Type 0
IsAccepted instance claim (Ok accepted) =
    (accepted.instance ≡ instance) × (accepted.certificate ≡ claim) × IsValid (network_of instance) claim
IsAccepted instance claim (Err (Refused reason)) = IsVerdict (network_of instance) claim (No reason)
IsAccepted instance claim (Err e) = ⊥

-- first the inputs are read, then the certificate, and then it is judged
abbrev pub IsAcceptedOf : Inputs → List ℕ → Result Accepted Fault → Type 0
IsAcceptedOf inputs octets = Then (IsInstanceOf inputs) (λ instance. Then (IsCertificate octets) (IsAccepted instance))

-- the plan of a claim, or its short set; the other is of the wrong kind
abbrev pub plan_in : Claim → Result Best Fault
plan_in (best c) = Ok c
plan_in (short c) = Err WrongKind

abbrev pub shortage_in : Claim → Result Short Fault
shortage_in (best c) = Err WrongKind
shortage_in (short c) = Ok c
