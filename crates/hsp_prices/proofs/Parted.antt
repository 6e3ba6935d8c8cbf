-- Sums over a list whose elements are parted among those of another list.
use Rattle.std.proofs.Common.{◌≡◌, ℕ, suc, ◌∙◌, Bool, true, false, List, [], ◌∷◌, sum_by, sym, arith}
use Rattle.std.specs.List.{AllByRecursion, AllPairs, list_any}
use Rattle.std.proofs.lemmas.Bool.{both_ways, false_from_ne_true}
use Rattle.std.proofs.lemmas.List.Folds.{list_any_none}
use Rattle.hsp_transport.proofs.Rowwise.{when}
use Rattle.hsp_instance.proofs.Lists.{all_so}
use Rattle.hsp_prices.proofs.Lists.{same_sum, sum_turned}
use Rattle.hsp_prices.proofs.Once.{AtMostOnce, sum_once}

-- each element is in one part: a sum over the list is the sum over the parts of the sums over their elements
pub sum_parted : {A B : Type 0} (is : B → A → Bool) (w : A → ℕ) (xs : List A) (ys : List B)
    → AllByRecursion (λ x. list_any (λ y. is y x) ys ≡ true) xs → ((x : A) → AtMostOnce (λ y. is y x) ys)
    → sum_by w xs ≡ sum_by (λ y. sum_by (λ x. when (is y x) (w x)) xs) ys
sum_parted is w xs ys some once =
    same_sum w (λ x. sum_by (λ y. when (is y x) (w x)) ys) xs
    (all_so (λ x. list_any (λ y. is y x) ys ≡ true) _ xs (λ x e. sym (sum_once (λ y. is y x) (w x) ys e (once x))) some)
    ∙ sum_turned (λ x y. when (is y x) (w x)) xs ys

-- a test that passes no two elements that differ is passed at most once by a list whose elements differ
pub once_apart : {A : Type 0} (test : A → Bool) (same : A → A → Bool)
    → ((a b : A) → test a ≡ true → test b ≡ true → same a b ≡ true) → (xs : List A)
    → AllPairs (λ a b. same a b ≡ false) xs → AtMostOnce test xs
once_apart test same tells [] apart = tt
once_apart test same tells (x ∷ xs) apart = (
  (λ t.
      list_any_none test xs (λ k d l.
      false_from_ne_true (test _)
      (λ s. both_ways (same x _) (apart 0 (suc k) d (omega arith) (omega arith)) (tells x _ t s)))),
  once_apart test same tells xs (λ i j d l m. apart (suc i) (suc j) d (omega arith) (omega arith)),
)
