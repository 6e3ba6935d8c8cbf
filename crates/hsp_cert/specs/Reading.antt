-- What reading answers of a text.
use Rattle.std.specs.Prelude.{◌≡◌, ℕ, List, Result}
use Rattle.hsp_cert.specs.declared.fault.CertFault.{CertFault}
use Rattle.hsp_cert.specs.Certificate.{Claim, IsCertificate}
use Rattle.hsp_cert.specs.Language.{Agrees, Language, MeansIn}
use Rattle.hsp_cert.specs.Text.{lines_of, text_of}

-- the language of certificates
abbrev pub certificates : Language Claim
certificates = record { Is = IsCertificate; lines_of = lines_of }

-- the text is a certificate's, or has this fault
abbrev pub Means : List ℕ → Result Claim CertFault → Type 0
Means text result = MeansIn certificates text result

-- no two certificates have one text
abbrev pub HasOneSpelling : Type 0
HasOneSpelling = (c d : Claim) → IsCertificate c → IsCertificate d → text_of c ≡ text_of d → c ≡ d

-- No two answers are true of a text, where memory ran out at neither: it spells at most one certificate, or has one
-- fault.
abbrev pub HasOneAnswer : Type 0
HasOneAnswer = (text : List ℕ) (a b : Result Claim CertFault) → Means text a → Means text b → Agrees a b
