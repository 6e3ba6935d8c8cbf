-- Certificates by prices: of a plan that is best, or of a set of servers that is short.
use Rattle.std.specs.Prelude.{◌≡◌, Bool, true}
use Rattle.hsp_price_text.specs.declared.certificate.PriceCertificate.{PriceCertificate}
use Rattle.hsp_price_text.specs.declared.certificate.PriceCertificate.TheVariants.{Plan, Shortage}
use Rattle.hsp_price_text.specs.Claim.{is_best, is_short}

abbrev pub is_certificate : PriceCertificate → Bool
is_certificate (Plan b) = is_best b
is_certificate (Shortage s) = is_short s

-- its numbers are within the orders and ranges of a text
abbrev pub IsCertificate : PriceCertificate → Type 0
IsCertificate certificate = is_certificate certificate ≡ true
