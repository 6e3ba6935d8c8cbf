-- The certificates that a report is of.
use Rattle.hsp_cert.specs.Certificate.{Claim}
use Rattle.hsp_cert.specs.Certificate.Claim.{best, short}
use Rattle.hsp_instance.specs.Instance.{Instance}
use Rattle.hsp_check.specs.Instance.{network_of}
use Rattle.hsp_check.specs.Valid.{IsValidPlan, IsValidSet}

-- the certificate of a plan, valid for the instance
abbrev pub IsPlanFor : Instance → Claim → Type 0
IsPlanFor it (best plan) = IsValidPlan (network_of it) plan
IsPlanFor it (short set) = ⊥

-- the certificate of a short set, valid for the instance
abbrev pub IsShortageFor : Instance → Claim → Type 0
IsShortageFor it (best plan) = ⊥
IsShortageFor it (short set) = IsValidSet (network_of it) set
