-- Languages of texts of lines: each text spells one claim, and its last line is END. What reading answers of a text.
use Rattle.std.specs.Prelude.{◌≡◌, ◌<◌, ◌+◌, ℕ, Bool, true, false, List, [], ◌∷◌, ◌++◌, length, Option, Some, None}
use Rattle.std.specs.Prelude.{Result, Ok, Err, codes}
use Rattle.std.specs.List.{AllByRecursion}
use Rattle.hsp_text.specs.Lines.{IsUnbroken}
use Rattle.hsp_cert.specs.Text.{unlines}
use Rattle.hsp_cert.specs.declared.fault.CertFault.{CertFault}
use Rattle.hsp_cert.specs.declared.fault.CertFault.TheVariants as fault

pub record Language (Claim : Type 0) : Type 1 where
  -- which claims are within the orders and ranges of a text
  pub Is : Claim → Type 0
  -- the lines that spell a claim
  pub lines_of : Claim → List (List ℕ)

abbrev pub text_in : {Claim : Type 0} → Language Claim → Claim → List ℕ
text_in language claim = unlines (language.lines_of claim)

-- the lines can stand at the front of some claim's
abbrev pub LinesStand : {Claim : Type 0} → Language Claim → List (List ℕ) → Type 0
LinesStand language ls =
    (claim : _) × language.Is claim × (more : List (List ℕ)) × (language.lines_of claim ≡ ls ++ more)

abbrev pub IsEnd : List ℕ → Type 0
IsEnd line = line ≡ codes "END"

abbrev pub HasNoEnd : List (List ℕ) → Type 0
HasNoEnd ls = AllByRecursion (λ l. IsEnd l → ⊥) ls

-- line n, counted from 1, at or before END, is the first with LF that can't stand
pub record IsBadLine {Claim : Type 0} (language : Language Claim) (text : List ℕ) (n : ℕ) : Type 0 where
  pub before : List (List ℕ)
  pub line : List ℕ
  pub rest : List ℕ
  pub cut : text ≡ unlines before ++ (line ++ 10 ∷ rest)
  pub unbroken : IsUnbroken line
  pub stand : LinesStand language before
  pub no_end : HasNoEnd before
  pub bad : LinesStand language (before ++ line ∷ []) → ⊥
  pub number : n ≡ length before + 1

-- every line with LF stands, and none is END
pub record HasEnded {Claim : Type 0} (language : Language Claim) (text : List ℕ) : Type 0 where
  pub before : List (List ℕ)
  pub tail : List ℕ
  pub cut : text ≡ unlines before ++ tail
  pub unbroken : IsUnbroken tail
  pub stand : LinesStand language before
  pub no_end : HasNoEnd before

-- a claim's text and an octet more
pub record IsAfterEnd {Claim : Type 0} (language : Language Claim) (text : List ℕ) (n : ℕ) : Type 0 where
  pub claim : Claim
  pub is : language.Is claim
  pub rest : List ℕ
  pub some : 0 < length rest
  pub cut : text ≡ text_in language claim ++ rest
  pub number : n ≡ length (language.lines_of claim) + 1

-- the text is the claim's, or has this fault
abbrev pub MeansIn : {Claim : Type 0} → Language Claim → List ℕ → Result Claim CertFault → Type 0
MeansIn language text (Ok claim) = language.Is claim × (text ≡ text_in language claim)
MeansIn language text (Err (fault.BadLine n)) = IsBadLine language text n
MeansIn language text (Err fault.Ended) = HasEnded language text
MeansIn language text (Err (fault.AfterEnd n)) = IsAfterEnd language text n
MeansIn language text (Err fault.OutOfMemory) = Unit {0}

-- the answers are one, unless memory ran out at either
abbrev pub Agrees : {Claim : Type 0} → Result Claim CertFault → Result Claim CertFault → Type 0
Agrees (Err fault.OutOfMemory) other = Unit {0}
Agrees result (Err fault.OutOfMemory) = Unit {0}
Agrees result other = result ≡ other

-- ---- reading line by line

-- the draft with one line more, where it can stand, from the draft before the first line on
pub record Machine (Draft Claim : Type 0) : Type 0 where
  pub start : Draft
  pub step : Draft → List ℕ → Option Draft
  -- whether END was read, and what the draft claims then
  pub has_ended : Draft → Bool
  pub claimed : Draft → Claim

abbrev pub stepped : {Draft Claim : Type 0} → Machine Draft Claim → Option Draft → List ℕ → Option Draft
stepped machine None line = None
stepped machine (Some d) line = machine.step d line

-- the draft after these lines, where each can stand
abbrev pub run : {Draft Claim : Type 0} → Machine Draft Claim → Option Draft → List (List ℕ) → Option Draft
run machine o [] = o
run machine o (line ∷ lines) = run machine (stepped machine o line) lines

-- whether a line was taken: the draft is then the next one, and otherwise it is as it was
abbrev pub Stepped : {Draft : Type 0} → Draft → Option Draft → Bool → Draft → Type 0
Stepped old (Some next) true new = new ≡ next
Stepped old (Some next) false new = ⊥
Stepped old None true new = ⊥
Stepped old None false new = new ≡ old
