-- What the parts of a certificate claim.
use Rattle.hsp_cert.specs.declared.certificate.Shown.{Shown}
use Rattle.hsp_cert.specs.declared.certificate.Shown.TheVariants.{Plan, Shortage}
use Rattle.hsp_cert.specs.Certificate.{Claim}
use Rattle.hsp_cert.specs.Certificate.Claim.{best, short}

abbrev pub claim_of : Shown → Claim
claim_of (Plan b) = best b
claim_of (Shortage s) = short s
