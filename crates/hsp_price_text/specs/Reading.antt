-- What reading answers of a text.
use Rattle.std.specs.Prelude.{◌≡◌, List, ℕ, Result}
use Rattle.hsp_cert.specs.declared.fault.CertFault.{CertFault}
use Rattle.hsp_price_text.specs.Certificate.{IsCertificate}
use Rattle.hsp_price_text.specs.declared.certificate.PriceCertificate.{PriceCertificate}
use Rattle.hsp_cert.specs.Language.{Agrees, MeansIn}
use Rattle.hsp_price_text.specs.Text.{prices, text_of}

-- the text is a certificate's, or has this fault
abbrev pub Means : List ℕ → Result PriceCertificate CertFault → Type 0
Means text result = MeansIn prices text result

-- no two certificates have one text
abbrev pub HasOneSpelling : Type 0
HasOneSpelling = (c d : PriceCertificate) → IsCertificate c → IsCertificate d → text_of c ≡ text_of d → c ≡ d

-- No two answers are true of a text, where memory ran out at neither: it spells at most one certificate, or has one
-- fault.
abbrev pub HasOneAnswer : Type 0
HasOneAnswer = (text : List ℕ) (a b : Result PriceCertificate CertFault) → Means text a → Means text b → Agrees a b
