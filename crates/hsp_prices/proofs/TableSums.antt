-- What the table of rows adds up, and that it has each kind once.
use Rattle.std.proofs.Common.{◌≡◌, ℕ, ◌+◌, inl, inr, Bool, true, false, List, [], ◌∷◌, sum_by, refl, arith}
use Rattle.std.specs.Prelude.{⊤}
use Rattle.std.specs.List.{AllByRecursion, list_any}
use Rattle.std.proofs.lemmas.Bool.{both_ways, false_from_ne_true, false≢true, or_cases, or_from, or_left, or_parts}
use Rattle.std.proofs.lemmas.Bool.{or_right}
use Rattle.std.proofs.lemmas.List.Folds.{Any-from_list_any}
use Rattle.std.proofs.lemmas.List.Sums.{sum_by-cons}
use Rattle.hsp_prices.proofs.Counting.{IsKinding, Kinding, counted, counted_all, has, joined_is, table_of}
use Rattle.hsp_prices.proofs.Placing.{all_there}
use Rattle.hsp_prices.proofs.Once.{AtMostOnce}

module _ {A : Type 0} (by : Kinding A) where
  -- a number that adds up as rows of one kind join
  module _ (w : A → ℕ) (adds : (a b : A) → by.same a b ≡ true → w (by.with_count_of a b) ≡ w a + w b) where
    -- a row more adds its number
    sum_counted : (t : List A) (x : A) → sum_by w (counted by t x) ≡ sum_by w t + w x
    sum_counted [] x = omega (arith, sum_by-cons w x [])
    sum_counted (f ∷ rest) x = one (by.same f x) refl (sum_counted rest x)
      where
        one : (t : Bool) → by.same f x ≡ t → sum_by w (counted by rest x) ≡ sum_by w rest + w x
            → sum_by w (counted by (f ∷ rest) x) ≡ sum_by w (f ∷ rest) + w x
        one true e more =
            rw e
            (omega (arith, sum_by-cons w (by.with_count_of f x) rest, sum_by-cons w f rest, adds f x e))
        one false e more =
            rw e (omega (arith, sum_by-cons w f (counted by rest x), sum_by-cons w f rest, more))

    -- the rows add theirs to those of a table
    sum_counted_all : (rows t : List A) → sum_by w (counted_all by t rows) ≡ sum_by w t + sum_by w rows
    sum_counted_all [] t = omega arith
    sum_counted_all (x ∷ rows) t =
        omega (arith, sum_counted_all rows (counted by t x), sum_counted t x, sum_by-cons w x rows)

    -- a table has the sum of its rows
    pub table_sum : (rows : List A) → sum_by w (table_of by rows) ≡ sum_by w rows
    table_sum rows = omega (arith, sum_counted_all rows [])

  -- what is kept as rows of one kind join
  module _ (P : A → Type 0) (keeps : (a b : A) → by.same a b ≡ true → P a → P b → P (by.with_count_of a b)) where
    -- holds of a table with one row more
    all_counted : (t : List A) (x : A) → AllByRecursion P t → P x → AllByRecursion P (counted by t x)
    all_counted [] x all own = (own, tt)
    all_counted (f ∷ rest) x all own = one (by.same f x) refl (all_counted rest x all.1 own)
      where
        one : (t : Bool) → by.same f x ≡ t → AllByRecursion P (counted by rest x)
            → AllByRecursion P (counted by (f ∷ rest) x)
        one true e more = rw e (keeps f x e all.0 own, all.1)
        one false e more = rw e (all.0, more)

    -- and with all rows
    all_counted_all : (rows t : List A) → AllByRecursion P rows → AllByRecursion P t
        → AllByRecursion P (counted_all by t rows)
    all_counted_all [] t own all = all
    all_counted_all (x ∷ rows) t own all = all_counted_all rows (counted by t x) own.1 (all_counted t x all own.0)

    -- what holds of rows holds of their table
    pub table_all : (rows : List A) → AllByRecursion P rows → AllByRecursion P (table_of by rows)
    table_all rows own = all_counted_all rows [] own tt

module _ {A : Type 0} (by : Kinding A) (is : IsKinding by) where
  -- no two rows of a table are of one kind
  abbrev pub Apart : List A → Type 0
  Apart [] = ⊤
  Apart (f ∷ rest) = (has by is rest f ≡ false) × Apart rest

  -- a kind that isn't there, nor that of one row more, isn't there with it
  still_none : (t : List A) (x y : A) → has by is t y ≡ false → by.same x y ≡ false
      → has by is (counted by t x) y ≡ false
  still_none [] x y h e = or_from (by.same x y) false e refl
  still_none (f ∷ rest) x y h e = grind (arith, joined_is by is f x y, still_none rest x y)

  -- a row more keeps them apart
  apart_counted : (t : List A) (x : A) → Apart t → Apart (counted by t x)
  apart_counted [] x apart = (refl, tt)
  apart_counted (f ∷ rest) x apart = one (by.same f x) refl (apart_counted rest x apart.1)
    where
      alike : (t : List A) → by.same f x ≡ true → has by is t f ≡ false → has by is t (by.with_count_of f x) ≡ false
      alike [] e none = refl
      alike (g ∷ more) e none = grind (arith, alike more, is.transitive, is.symmetric, is.kept)

      one : (t : Bool) → by.same f x ≡ t → Apart (counted by rest x) → Apart (counted by (f ∷ rest) x)
      one true e more = rw e (alike rest e apart.0, apart.1)
      one false e more =
          rw e (
            still_none rest x f apart.0
                (false_from_ne_true (by.same x f) (λ s. both_ways (by.same f x) e (is.symmetric x f s))),
            more,
          )

  -- and so do all rows
  apart_all : (rows t : List A) → Apart t → Apart (counted_all by t rows)
  apart_all [] t apart = apart
  apart_all (x ∷ rows) t apart = apart_all rows (counted by t x) (apart_counted t x apart)

  -- a table has each kind once
  pub table_apart : (rows : List A) → Apart (table_of by rows)
  table_apart rows = apart_all rows [] tt

  -- so a test that only rows of one kind pass is passed at most once
  pub once_apart : (test : A → Bool) → ((a b : A) → test a ≡ true → test b ≡ true → by.same a b ≡ true)
      → (t : List A) → Apart t → AtMostOnce test t
  once_apart test tells [] apart = tt
  once_apart test tells (f ∷ rest) apart = ((λ e. none rest e apart.0), once_apart test tells rest apart.1)
    where
      none : (t : List A) → test f ≡ true → has by is t f ≡ false → list_any test t ≡ false
      none [] e h = refl
      none (g ∷ more) e h =
          let parts = or_parts (by.same g f) (has by is more f) h in
          or_from (test g) (list_any test more)
          (false_from_ne_true (test g) (λ s. both_ways (by.same g f) parts.0 (tells g f s e))) (none more e parts.1)

  -- a test that a kind passes as a whole is passed in a table where the kind is there
  any_like : (test : A → Bool) (x : A) → ((f : A) → by.same f x ≡ true → test f ≡ true) → (t : List A)
      → has by is t x ≡ true → list_any test t ≡ true
  any_like test x alike [] h = absurd (false≢true h)
  any_like test x alike (f ∷ rest) h = elim (or_cases (by.same f x) (has by is rest x) h) [
    | inl own ↦ or_left (test f) (list_any test rest) (alike f own)
    | inr more ↦ or_right (test f) (list_any test rest) (any_like test x alike rest more)
  ]

  -- so what some row passes some row of the table passes
  pub table_any : (test : A → Bool) → ((f x : A) → by.same f x ≡ true → test x ≡ true → test f ≡ true)
      → (rows : List A) → list_any test rows ≡ true → list_any test (table_of by rows) ≡ true
  table_any test alike rows e =
      let found = Any-from_list_any test rows e in
      let there = all_there by is (λ a. 0) (λ a b. refl) rows [] found.0 found.1 found.2 in
      any_like test found.1 (λ f s. alike f found.1 s found.4) (table_of by rows) (rw found.3 at there)
