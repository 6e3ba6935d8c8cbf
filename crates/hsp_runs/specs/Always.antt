-- What parts of runs answer wherever inputs define an instance and octets spell a certificate that holds for it.
use Rattle.std.specs.Prelude.{◌≡◌, ℕ, List, Result, Ok, Err}
use Rattle.hsp_instance.specs.Instance.{Instance}
use Rattle.hsp_cert.specs.Certificate as certificates
use Rattle.hsp_cert.specs.Certificate.{Claim}
use Rattle.hsp_cert.specs.Text.{text_of}
use Rattle.hsp_inputs.specs.declared.fault.Fault.{Fault}
use Rattle.hsp_inputs.specs.declared.fault.Fault.TheVariants.{OutOfMemory}
use Rattle.hsp_inputs.specs.Headline.{Defines}
use Rattle.hsp_runs.specs.Shown.{Spells}
use Rattle.hsp_inputs.specs.Memory.{IsOrNoMemory}
use Rattle.hsp_runs.specs.declared.accepted.Accepted.{Accepted}
use Rattle.hsp_inputs.specs.declared.inputs.Inputs.{Inputs}

-- the certificate that the octets spell, where they spell one
abbrev pub ReadsAlways : List ℕ → Result Claim Fault → Type 0
ReadsAlways octets answer =
    (claim : Claim) → certificates.IsCertificate claim → octets ≡ text_of claim → IsOrNoMemory claim answer

-- the certificate is accepted, where it holds
abbrev pub AcceptsClaim : Claim → Result Accepted Fault → Type 0
AcceptsClaim claim (Ok accepted) = accepted.certificate ≡ claim
AcceptsClaim claim (Err fault) = fault ≡ OutOfMemory

abbrev pub AcceptsAlways : Inputs → List ℕ → Result Accepted Fault → Type 0
AcceptsAlways inputs octets answer =
    (it : Instance) (claim : Claim) → Defines inputs it → Spells octets it claim → AcceptsClaim claim answer
