-- What checking a certificate answers.
pub use Rattle.hsp_runs.specs.Shown.{Holds, HoldsBest, HoldsShort, Shows, ShowsOf}
use Rattle.std.specs.Prelude.{◌≡◌, ◌≢◌, ◌↔◌, ℕ, List, Result, Ok, Err}
use Rattle.hsp_instance.specs.Instance.{Instance}
use Rattle.hsp_cert.specs.Certificate.{Claim}
use Rattle.hsp_cert.specs.Reading.{Means}
use Rattle.hsp_cert.specs.declared.fault.CertFault.{CertFault}
use Rattle.hsp_cert.specs.declared.fault.CertFault.TheVariants as cert_fault
use Rattle.hsp_check.specs.Instance.{network_of}
use Rattle.hsp_check.specs.Valid.{IsValid}
use Rattle.hsp_check.specs.Verdict as verdicts
use Rattle.hsp_check.specs.declared.verdict.Verdict.{Verdict}
use Rattle.hsp_check.specs.declared.verdict.Verdict.TheVariants.{Yes}
use Rattle.hsp_inputs.specs.declared.fault.Fault.{Fault}
use Rattle.hsp_inputs.specs.declared.fault.Fault.TheVariants.{Cert}
use Rattle.hsp_inputs.specs.declared.inputs.Inputs.{Inputs}
use Rattle.hsp_inputs.specs.Instance.{IsInstanceOf}
use Rattle.hsp_text.specs.Answers.{Then, fault_as}

-- the certificate that octets spell
abbrev pub IsCertificate : List ℕ → Result Claim Fault → Type 0
IsCertificate octets answer =
    (reading : Result Claim CertFault) × Means octets reading × (reading ≢ Err cert_fault.OutOfMemory)
    × (answer ≡ fault_as Cert reading)

-- the verdict on a claim, which is Yes exactly where the claim is valid for the instance
abbrev pub IsVerdict : Instance → Claim → Result Verdict Fault → Type 0
IsVerdict instance claim (Ok verdict) =
    verdicts.IsVerdict (network_of instance) claim verdict × ((verdict ≡ Yes) ↔ IsValid (network_of instance) claim)
IsVerdict instance claim (Err e) = ⊥

-- the verdict on the certificate that octets spell
abbrev pub IsVerdictOn : List ℕ → Instance → Result Verdict Fault → Type 0
IsVerdictOn octets instance = Then (IsCertificate octets) (IsVerdict instance)

-- first the inputs are read, then the certificate, and then it is judged
abbrev pub IsChecked : Inputs → List ℕ → Result Verdict Fault → Type 0
IsChecked inputs octets = Then (IsInstanceOf inputs) (IsVerdictOn octets)
