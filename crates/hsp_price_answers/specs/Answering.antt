-- How the rows of a log are answered by what answers queries, whatever that is.
use Rattle.std.specs.Prelude.{◌≡◌, ◌+◌, ℕ, List, [], ◌∷◌, count_by, Option, None}
use Rattle.hsp_log.specs.Entries.{Entry}
use Rattle.hsp_log.specs.declared.form.Form.{Form}
use Rattle.hsp_price_check.specs.Tally.{capped}
use Rattle.hsp_price_answers.specs.Asking.{AreAsked, Asked, AsksAt, is_refused, queries_in}
use Rattle.hsp_price_answers.specs.Asking.Asked.{bad, nothing, query}
use Rattle.hsp_price_answers.specs.Saying.{refused_line}

-- `Takes old entry new line`: a query is answered by the line, and the next ones by `new`
abbrev pub TakesQuery : Type 0 → Type 1
TakesQuery D = D → Entry → D → List ℕ → Type 0

-- queries are answered in turn, each by its line
abbrev pub AreGiven : {D : Type 0} → TakesQuery D → D → List Entry → D → List (List ℕ) → Type 0
AreGiven Takes first [] last [] = last ≡ first
AreGiven {D} Takes first (entry ∷ entries) last (line ∷ lines) =
    (next : D) × Takes first entry next line × AreGiven Takes next entries last lines
AreGiven Takes first [] last (line ∷ lines) = ⊥
AreGiven Takes first (entry ∷ entries) last [] = ⊥

-- the lines of rows: of each query the next of the given ones, of a refused row its own, and none of a row that asks
-- nothing
abbrev pub lines_in : List Asked → List (List ℕ) → List (List ℕ)
lines_in [] given = []
lines_in (nothing ∷ more) given = [] ∷ lines_in more given
lines_in (bad refusal ∷ more) given = refused_line refusal ∷ lines_in more given
lines_in (query entry ∷ more) [] = [] ∷ lines_in more []
lines_in (query entry ∷ more) (line ∷ given) = line ∷ lines_in more given

-- how many rows were refused, as far as sums are kept
abbrev pub refused_in : List Asked → ℕ
refused_in asked = capped (count_by is_refused asked)

-- Rows of a log of this form, with its header among them or none yet, were answered by lines and by sums.
abbrev pub AnswersRows : Type 0 → Type 1
AnswersRows S = Option Form → S → List (List ℕ) → List (List ℕ) → Type 0

-- Rows were answered, their queries in turn from `first` to `last`.
pub record AreInTurn {D : Type 0} (Takes : TakesQuery D) (first last : D) (form : Option Form) (refused : ℕ)
    (rows lines : List (List ℕ)) : Type 0 where
  pub asked : List Asked
  pub given : List (List ℕ)
  pub asks : AreAsked None rows asked form
  pub taken : AreGiven Takes first (queries_in asked) last given
  pub lines_are : lines ≡ lines_in asked given
  pub refused_are : refused ≡ refused_in asked

-- the same to some `last`, by whose counts and the number of refused rows the sums are
abbrev pub InTurn : {D S : Type 0} → TakesQuery D → (D → ℕ → S) → D → AnswersRows S
InTurn {D} Takes sums_of first form sums rows lines =
    (last : D) × (refused : ℕ) × AreInTurn Takes first last form refused rows lines × (sums ≡ sums_of last refused)

-- ---- one row

-- a responder: the form of the log, once its header was taken, what answers queries, and how many rows were refused
pub record Answering (D : Type 0) : Type 0 where
  pub form : Option Form
  pub dispatcher : D
  pub refused : ℕ

-- What a row asks is answered by a line. A refused row is counted.
abbrev pub GivesLine : {D : Type 0} → TakesQuery D → D → ℕ → Asked → D → ℕ → List ℕ → Type 0
GivesLine Takes old refused nothing new now line = (new ≡ old) × (now ≡ refused) × (line ≡ [])
GivesLine Takes old refused (query entry) new now line = Takes old entry new line × (now ≡ refused)
GivesLine Takes old refused (bad refusal) new now line =
    (new ≡ old) × (now ≡ capped (refused + 1)) × (line ≡ refused_line refusal)

-- a responder takes a row with this answer
pub record TakesRow {D : Type 0} (Takes : TakesQuery D) (old : Answering D) (row : List ℕ) (new : Answering D)
    (answer : List ℕ) : Type 0 where
  pub asked : Asked
  pub asks : AsksAt old.form row asked new.form
  pub gives : GivesLine Takes old.dispatcher old.refused asked new.dispatcher new.refused answer
