-- The texts of certificates by prices.
use Rattle.std.specs.Prelude.{◌≡◌, ◌≤◌, ℕ, true, List, length}
use Rattle.hsp_text.specs.declared.limits.TheConstants.{LARGEST_FILE}
use Rattle.hsp_price_text.specs.Certificate.{IsCertificate}
use Rattle.hsp_price_text.specs.Text.{text_of}
use Rattle.hsp_price_text.specs.declared.certificate.PriceCertificate.{PriceCertificate}
use Rattle.hsp_price_text.specs.declared.certificate.PriceCertificate.TheVariants as certificates
use Rattle.hsp_price_runs.specs.declared.prices_text.PricesText.{PricesText}
use Rattle.hsp_price_runs.specs.declared.prices_text.PricesText.TheVariants.{Plan, Shortage}

abbrev pub octets_of : PricesText → List ℕ
octets_of (Plan text) = text.items
octets_of (Shortage text) = text.items

-- one is of a plan where the other is
abbrev pub IsOfKind : PriceCertificate → PricesText → Type 0
IsOfKind (certificates.Plan plan) (Plan text) = Unit {0}
IsOfKind (certificates.Plan plan) (Shortage text) = ⊥
IsOfKind (certificates.Shortage short) (Plan text) = ⊥
IsOfKind (certificates.Shortage short) (Shortage text) = Unit {0}

-- it is the text of a certificate within its limits, and no longer than a file that is read whole
pub record IsTextOf (certificate : PriceCertificate) (text : PricesText) : Type 0 where
  pub is : IsCertificate certificate
  pub kind : IsOfKind certificate text
  pub octets : octets_of text ≡ text_of certificate
  pub short : length (octets_of text) ≤ LARGEST_FILE
