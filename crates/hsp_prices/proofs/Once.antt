-- Sums over the elements of a list that pass a test, where no two pass it, and lists in strict order.
use Rattle.std.proofs.Common.{◌≡◌, ℕ, zero, suc, ◌<◌, inl, inr, Bool, true, false, List, [], ◌∷◌, length}
use Rattle.std.proofs.Common.{sum_by, slice_index_or, Option, None, Some, refl, arith}
use Rattle.std.specs.Prelude.{⊤}
use Rattle.std.specs.List.{AllByRecursion, list_any}
use Rattle.std.proofs.lemmas.Bool.{and_parts, both_ways, cases_Bool, false_from_ne_true, false≢true, or_from, or_parts}
use Rattle.std.proofs.lemmas.List.Folds.{list_any_at}
use Rattle.std.proofs.lemmas.List.Sums.{sum_by-cons}
use Rattle.hsp_cert.specs.Certificate.{ascends_from}
use Rattle.hsp_transport.proofs.Rowwise.{when}

-- no two elements pass the test
abbrev pub AtMostOnce : {A : Type 0} → (A → Bool) → List A → Type 0
AtMostOnce test [] = ⊤
AtMostOnce test (x ∷ xs) = (test x ≡ true → list_any test xs ≡ false) × AtMostOnce test xs

module _ {A : Type 0} (test : A → Bool) where
  -- an element that passes counts
  counts : (w : A → ℕ) (x : A) → test x ≡ true → when (test x) (w x) ≡ w x
  counts w x e = rw e refl

  -- one that doesn't pass adds nothing
  adds_none : (w : A → ℕ) (x : A) → test x ≡ false → when (test x) (w x) ≡ 0
  adds_none w x e = rw e refl

  -- where none passes the sum is zero
  pub sum_none : (w : A → ℕ) (xs : List A) → list_any test xs ≡ false → sum_by (λ x. when (test x) (w x)) xs ≡ 0
  sum_none w [] e = refl
  sum_none w (x ∷ xs) e =
      let parts = or_parts (test x) (list_any test xs) e in
      omega (
        arith,
        sum_by-cons (λ x. when (test x) (w x)) x xs,
        adds_none w x parts.0,
        sum_none w xs parts.1,
      )

  -- the one that passes is the sum
  pub sum_only : (w : A → ℕ) (xs : List A) (k : ℕ) (d : A) → k < length xs → test (slice_index_or xs k d) ≡ true
      → AtMostOnce test xs → sum_by (λ x. when (test x) (w x)) xs ≡ w (slice_index_or xs k d)
  sum_only w [] k d l e once = absurd (omega arith)
  sum_only w (x ∷ xs) zero d l e once =
      omega (arith, sum_by-cons (λ x. when (test x) (w x)) x xs, counts w x e, sum_none w xs (once.0 e))
  sum_only w (x ∷ xs) (suc k) d l e once =
      let other : test x ≡ false =
      false_from_ne_true (test x)
      (λ t. both_ways (list_any test xs) (once.0 t) (list_any_at test xs k d (omega arith) e)) in
      omega (
        arith,
        sum_by-cons (λ x. when (test x) (w x)) x xs,
        adds_none w x other,
        sum_only w xs k d (omega arith) e once.1,
      )

  -- a number that counts for the one that passes counts once
  pub sum_once : (v : ℕ) (xs : List A) → list_any test xs ≡ true → AtMostOnce test xs
      → sum_by (λ x. when (test x) v) xs ≡ v
  sum_once v [] e once = absurd (false≢true e)
  sum_once v (x ∷ xs) e once = elim (cases_Bool (test x)) [
    | inl t ↦
        omega (
          arith,
          sum_by-cons (λ x. when (test x) v) x xs,
          counts (λ x. v) x t,
          sum_none (λ x. v) xs (once.0 t),
        )
    | inr f ↦
        omega (
          arith,
          sum_by-cons (λ x. when (test x) v) x xs,
          adds_none (λ x. v) x f,
          sum_once v xs (rw f at e) once.1,
        )
  ]

-- ---- lists in strict order

-- each element comes before all after it
abbrev pub Ordered : {A : Type 0} → (A → A → Bool) → List A → Type 0
Ordered before [] = ⊤
Ordered before (x ∷ xs) = AllByRecursion (λ y. before x y ≡ true) xs × Ordered before xs

module _ {A : Type 0} (before : A → A → Bool)
    (passed_on : (x y z : A) → before x y ≡ true → before y z ≡ true → before x z ≡ true) where
  -- what comes before the first of ascending elements comes before all
  before_all : (x : A) (xs : List A) → ascends_from before (Some x) xs ≡ true
      → AllByRecursion (λ y. before x y ≡ true) xs
  before_all x [] e = tt
  before_all x (y ∷ ys) e =
      let parts = and_parts (before x y) (ascends_from before (Some y) ys) e in
      (parts.0, later ys (before_all y ys parts.1))
    where
      later : (zs : List A) → AllByRecursion (λ z. before y z ≡ true) zs → AllByRecursion (λ z. before x z ≡ true) zs
      later [] all = tt
      later (z ∷ zs) all =
          let first = (and_parts (before x y) (ascends_from before (Some y) ys) e).0 in
          (passed_on x y z first all.0, later zs all.1)

  -- elements that ascend one by one are in strict order
  pub ordered : (last : Option A) (xs : List A) → ascends_from before last xs ≡ true → Ordered before xs
  ordered last [] e = tt
  ordered None (x ∷ xs) e = (before_all x xs e, ordered (Some x) xs e)
  ordered (Some y) (x ∷ xs) e =
      let rest = (and_parts (before y x) (ascends_from before (Some x) xs) e).1 in
      (before_all x xs rest, ordered (Some x) xs rest)

module _ {A : Type 0} (before : A → A → Bool) (test : A → Bool)
    (apart : (x y : A) → test x ≡ true → test y ≡ true → before x y ≡ true → ⊥) where
  -- behind an element that passes none passes
  none_after : (x : A) (xs : List A) → test x ≡ true → AllByRecursion (λ y. before x y ≡ true) xs
      → list_any test xs ≡ false
  none_after x [] t all = refl
  none_after x (y ∷ ys) t all =
      or_from (test y) (list_any test ys) (false_from_ne_true (test y) (λ s. apart x y t s all.0))
      (none_after x ys t all.1)

  -- a test that no two elements in order pass is passed at most once
  pub once_ordered : (xs : List A) → Ordered before xs → AtMostOnce test xs
  once_ordered [] all = tt
  once_ordered (x ∷ xs) all = ((λ t. none_after x xs t all.0), once_ordered xs all.1)
