-- The table of the kinds of rows, as rows come in.
use Rattle.std.proofs.Common.{◌≡◌, Bool, true, if◌then◌else◌, List, [], ◌∷◌, arith}
use Rattle.std.specs.List.{list_any}
use Rattle.std.proofs.lemmas.Bool.{false≢true}

-- which rows are of one kind, and the row that stands for two of them: it has the name of the first and both counts
pub record Kinding (A : Type 0) : Type 0 where
  pub same : A → A → Bool
  pub with_count_of : A → A → A

-- the row joins the first of its kind, or stands last
abbrev pub counted : {A : Type 0} → Kinding A → List A → A → List A
counted by [] row = row ∷ []
counted by (first ∷ rest) row =
    if by.same first row then by.with_count_of first row ∷ rest else first ∷ counted by rest row

-- rows after those of a table
abbrev pub counted_all : {A : Type 0} → Kinding A → List A → List A → List A
counted_all by table [] = table
counted_all by table (row ∷ rows) = counted_all by (counted by table row) rows

-- the table of rows: one of each kind, in first-seen order
abbrev pub table_of : {A : Type 0} → Kinding A → List A → List A
table_of by rows = counted_all by [] rows

-- to be of one kind is an equivalence, and a row stays of its kind as it takes the count of another
pub record IsKinding {A : Type 0} (by : Kinding A) : Type 0 where
  pub reflexive : (a : A) → by.same a a ≡ true
  pub symmetric : (a b : A) → by.same a b ≡ true → by.same b a ≡ true
  pub transitive : (a b c : A) → by.same a b ≡ true → by.same b c ≡ true → by.same a c ≡ true
  pub kept : (a b : A) → by.same a (by.with_count_of a b) ≡ true

module _ {A : Type 0} (by : Kinding A) (is : IsKinding by) where
  -- a row that took another's count is of the kinds that it was of
  pub joined_is : (f r z : A) → by.same (by.with_count_of f r) z ≡ by.same f z
  joined_is f r z = grind (arith, is.transitive, is.symmetric, is.kept)

  -- a row of the kind is there
  abbrev pub has : List A → A → Bool
  has table r = list_any (λ f. by.same f r) table

  -- a table has a row of the kind that was counted
  pub has_counted : (table : List A) (f r : A) → by.same f r ≡ true → has (counted by table f) r ≡ true
  has_counted [] f r e = grind arith
  has_counted (g ∷ rest) f r e = grind (arith, joined_is g f r, is.transitive g f r, has_counted rest f r e)

  -- and stays there
  pub has_more : (table : List A) (z r : A) → has table r ≡ true → has (counted by table z) r ≡ true
  has_more [] z r e = absurd (false≢true e)
  has_more (g ∷ rest) z r e = grind (arith, joined_is g z r, has_more rest z r)
