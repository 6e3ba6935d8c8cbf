-- What planning answers.
use Rattle.std.specs.Prelude.{◌≡◌, ℕ, Bool, true, false, List, Result, Ok, Err}
use Rattle.hsp_instance.specs.Instance.{Instance}
use Rattle.hsp_cert.specs.Certificate.{Claim, IsCertificate}
use Rattle.hsp_cert.specs.Certificate.Claim.{best, short}
use Rattle.hsp_cert.specs.Text.{text_of}
use Rattle.hsp_check.specs.Instance.{network_of}
use Rattle.hsp_check.specs.Valid.{IsValid}
use Rattle.hsp_flow.specs.Planning.{HasLimitedPrices}
use Rattle.hsp_inputs.specs.declared.fault.Fault.{Fault}
use Rattle.hsp_inputs.specs.declared.inputs.Inputs.{Inputs}
use Rattle.hsp_inputs.specs.Instance.{IsInstanceOf}
use Rattle.hsp_text.specs.Answers.{Then}

-- a certificate's text, and whether it is that of a shortage
pub record Printed : Type 0 where
  pub octets : List ℕ
  pub is_short : Bool

abbrev pub is_shortage : Claim → Bool
is_shortage (best c) = false
is_shortage (short c) = true

abbrev pub printed : Claim → Printed
printed claim = record { octets = text_of claim; is_short = is_shortage claim }

-- the text of a certificate that is valid for the instance, and whose prices are limited
abbrev pub IsPlanText : Instance → Result Printed Fault → Type 0
IsPlanText instance (Ok text) =
    (claim : Claim) × IsCertificate claim × IsValid (network_of instance) claim
    × HasLimitedPrices (network_of instance) claim × (text ≡ printed claim)
IsPlanText instance (Err e) = ⊥

-- first the inputs are read, and then it is planned
abbrev pub IsPlanned : Inputs → Result Printed Fault → Type 0
IsPlanned inputs = Then (IsInstanceOf inputs) IsPlanText
