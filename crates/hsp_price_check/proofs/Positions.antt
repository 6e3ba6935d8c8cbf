-- Where the first element of a list stands that passes a test, and where none does.
use Rattle.std.proofs.Common.{◌≡◌, ◌<◌, ℕ, zero, suc, Bool, true, false, List, [], ◌∷◌, length, get_or, None}
use Rattle.std.proofs.Common.{position, inl, inr, ap, refl, arith}
use Rattle.std.specs.List.{list_any, position_or_len}
use Rattle.std.proofs.lemmas.Bool.{both_ways, cases_lt, false_from_ne_true, lt-ltb}
use Rattle.std.proofs.lemmas.List.Folds.{list_any_at, list_any_none}
use Rattle.std.proofs.lemmas.List.Sums.{fails_before_first}
use Rattle.hsp_prices.proofs.Once.{AtMostOnce}

module _ {A : Type 0} (test : A → Bool) where
  -- where none passes, the one at a place doesn't
  pub fails_at : (xs : List A) (k : ℕ) (d : A) → list_any test xs ≡ false → k < length xs
      → test (get_or xs k d) ≡ false
  fails_at xs k d none l =
      false_from_ne_true (test (get_or xs k d)) (λ t. both_ways (list_any test xs) none (list_any_at test xs k d l t))

  -- where there is no position none passes
  pub none_at : (xs : List A) (k : ℕ) (d : A) → position test xs ≡ None → k < length xs
      → test (get_or xs k d) ≡ false
  none_at xs k d e l = elim (cases_lt k (position_or_len test xs)) [
    | inl before ↦ fails_before_first test xs k d before
    | inr behind ↦
        let there = lt-ltb (position_or_len test xs) (length xs) (omega arith) in
        let some = rw there at e in
        absurd (cc (some))
  ]

  -- so none passes at all
  pub no_position : (xs : List A) → position test xs ≡ None → list_any test xs ≡ false
  no_position xs e = list_any_none test xs (λ k d l. none_at xs k d e l)

  -- where at most one passes, two that pass stand at one place
  pub one_place : (xs : List A) (k l : ℕ) (d : A) → AtMostOnce test xs → k < length xs → l < length xs
      → test (get_or xs k d) ≡ true → test (get_or xs l d) ≡ true → k ≡ l
  one_place [] k l d once m n t u = absurd (omega arith)
  one_place (x ∷ xs) zero zero d once m n t u = refl
  one_place (x ∷ xs) zero (suc l) d once m n t u =
      absurd (both_ways (list_any test xs) (once.0 t) (list_any_at test xs l d (omega arith) u))
  one_place (x ∷ xs) (suc k) zero d once m n t u =
      absurd (both_ways (list_any test xs) (once.0 u) (list_any_at test xs k d (omega arith) t))
  one_place (x ∷ xs) (suc k) (suc l) d once m n t u =
      ap suc (one_place xs k l d once.1 (omega arith) (omega arith) t u)
