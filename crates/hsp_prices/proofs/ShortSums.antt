-- Sums over sets of elements that have no element in common, and over those elements of a list that are flagged.
use Rattle.std.proofs.Common.{◌≡◌, ℕ, zero, suc, ◌<◌, ◌≤◌, inl, inr, Bool, true, false, List, [], ◌∷◌, length}
use Rattle.std.proofs.Common.{map, sum_by, slice_index, slice_index_or, All, refl, arith}
use Rattle.std.specs.List.{AllByRecursion, AllPairs, items_where_true, list_any}
use Rattle.std.proofs.lemmas.Bool.{cases_Bool, false_from_ne_true, or_from, or_parts}
use Rattle.std.proofs.lemmas.List.Folds.{list_any_none}
use Rattle.std.proofs.lemmas.List.Sums.{sum_by-cons}
use Rattle.hsp_transport.specs.Lists.{flag_at}
use Rattle.hsp_transport.specs.Sums.{sum_below}
use Rattle.hsp_transport.proofs.Rowwise.{when}
use Rattle.hsp_transport.proofs.Summing.{sum_by_le_all, sum_below_first}
use Rattle.hsp_prices.proofs.Lists.{sum_turned}
use Rattle.hsp_prices.proofs.Once.{AtMostOnce, sum_none, sum_once}

-- where no two elements pass a test together it is passed at most once
pub once_of_pairs : {A : Type 0} (R : A → A → Type 0) (test : A → Bool)
    → ((x y : A) → test x ≡ true → test y ≡ true → R x y → ⊥) → (xs : List A) → AllPairs R xs → AtMostOnce test xs
once_of_pairs R test apart [] pairs = tt
once_of_pairs R test apart (x ∷ xs) pairs = (
  λ t. list_any_none test xs (λ k d l. false_from_ne_true (test (slice_index_or xs k d)) (λ s.
      apart x (slice_index_or xs k d) t s (pairs zero (suc k) d (omega arith) (omega arith)))),
  once_of_pairs R test apart xs (λ i j d l m. pairs (suc i) (suc j) d (omega arith) (omega arith)),
)

-- ---- sets that have no element in common

module _ {X Y : Type 0} (is : Y → X → Bool) (w v : X → ℕ) (ys : List Y)
    (once : (x : X) → AtMostOnce (λ y. is y x) ys) where
  -- an element counts in at most one set
  counted_once : (x : X) → (list_any (λ y. is y x) ys ≡ true → w x ≤ v x)
      → sum_by (λ y. when (is y x) (w x)) ys ≤ v x
  counted_once x less = elim (cases_Bool (list_any (λ y. is y x) ys)) [
    | inl some ↦ omega (arith, sum_once (λ y. is y x) (w x) ys some (once x), less some)
    | inr none ↦ omega (arith, sum_none (λ y. is y x) (λ y. w x) ys none)
  ]

  -- so the sets together add up to no more than all that are in one
  pub sum_apart : (xs : List X) → All (λ x. list_any (λ y. is y x) ys ≡ true → w x ≤ v x) xs
      → sum_by (λ y. sum_by (λ x. when (is y x) (w x)) xs) ys ≤ sum_by v xs
  sum_apart xs less =
      omega (
        arith,
        sum_turned (λ y x. when (is y x) (w x)) ys xs,
        sum_by_le_all (λ x. sum_by (λ y. when (is y x) (w x)) ys) v xs
            (λ k d l. counted_once (slice_index_or xs k d) (less k d l)),
      )

-- ---- those that are flagged

module _ {A : Type 0} (test : A → Bool) where
  -- where none passes a test no flagged one does
  none_chosen : (flags : List Bool) (xs : List A) → list_any test xs ≡ false
      → list_any test (items_where_true flags xs) ≡ false
  none_chosen [] xs e = refl
  none_chosen (flag ∷ flags) [] e = refl
  none_chosen (true ∷ flags) (x ∷ xs) e =
      let parts = or_parts (test x) (list_any test xs) e in
      or_from (test x) (list_any test (items_where_true flags xs)) parts.0 (none_chosen flags xs parts.1)
  none_chosen (false ∷ flags) (x ∷ xs) e = none_chosen flags xs (or_parts (test x) (list_any test xs) e).1

  -- what at most one passes at most one of the flagged ones passes
  pub once_chosen : (flags : List Bool) (xs : List A) → AtMostOnce test xs
      → AtMostOnce test (items_where_true flags xs)
  once_chosen [] xs once = tt
  once_chosen (flag ∷ flags) [] once = tt
  once_chosen (true ∷ flags) (x ∷ xs) once =
      ((λ t. none_chosen flags xs (once.0 t)), once_chosen flags xs once.1)
  once_chosen (false ∷ flags) (x ∷ xs) once = once_chosen flags xs once.1

-- what holds at each flagged place holds of all that are flagged
pub all_chosen : {A : Type 0} (P : A → Type 0) (flags : List Bool) (xs : List A)
    → ((i : ℕ) (d : A) → i < length xs → flag_at flags i ≡ true → P (slice_index_or xs i d))
    → AllByRecursion P (items_where_true flags xs)
all_chosen P [] xs each = tt
all_chosen P (flag ∷ flags) [] each = tt
all_chosen P (true ∷ flags) (x ∷ xs) each =
    (each zero x (omega arith) refl, all_chosen P flags xs (λ i d l t. each (suc i) d (omega arith) t))
all_chosen P (false ∷ flags) (x ∷ xs) each = all_chosen P flags xs (λ i d l t. each (suc i) d (omega arith) t)

-- what the flagged places add up to
pub sum_chosen : {A : Type 0} (f : A → ℕ) (flags : List Bool) (xs : List A) → length flags ≡ length xs
    → sum_below (length xs) (λ i. when (flag_at flags i) (slice_index (map f xs) i))
    ≡ sum_by f (items_where_true flags xs)
sum_chosen f [] [] many = refl
sum_chosen f [] (x ∷ xs) many = absurd (omega arith)
sum_chosen f (flag ∷ flags) [] many = absurd (omega arith)
sum_chosen f (true ∷ flags) (x ∷ xs) many =
    omega (
      arith,
      sum_below_first (length xs) (λ i. when (flag_at (true ∷ flags) i) (slice_index (map f (x ∷ xs)) i)),
      sum_chosen f flags xs (omega arith),
      sum_by-cons f x (items_where_true flags xs),
    )
sum_chosen f (false ∷ flags) (x ∷ xs) many =
    omega (
      arith,
      sum_below_first (length xs) (λ i. when (flag_at (false ∷ flags) i) (slice_index (map f (x ∷ xs)) i)),
      sum_chosen f flags xs (omega arith),
    )
