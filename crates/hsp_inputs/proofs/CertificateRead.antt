-- The certificate by prices that was read.
use Rattle.std.proofs.Common.{◌≡◌, ℕ, List, Ok}
use Rattle.hsp_price_text.specs.Reading.{Means}
use Rattle.hsp_price_text.specs.declared.certificate.PriceCertificate.{PriceCertificate}
use Rattle.hsp_inputs.specs.Readings.{IsCertificateIn}
use Rattle.hsp_inputs.specs.declared.fault.Fault.TheVariants.{Cert}
use Rattle.hsp_inputs.proofs.PageRead.{stated_well}

-- a certificate that was read is what the octets spell
pub certificate_means : (octets : List ℕ) (certificate : PriceCertificate) → IsCertificateIn octets (Ok certificate)
    → Means octets (Ok certificate)
certificate_means octets certificate (reading, means, other, e) =
    let is : reading ≡ Ok certificate = stated_well Cert reading certificate e in rw is at means
