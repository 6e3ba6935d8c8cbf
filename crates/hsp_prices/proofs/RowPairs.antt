-- Two lists whose elements are alike, one by one.
use Rattle.std.proofs.Common.{◌≡◌, ℕ, ◌+◌, ◌||◌, ◌∙◌, Bool, List, [], ◌∷◌, sum_by, refl, ap₂, sym}
use Rattle.std.specs.List.{AllByRecursion, AllZip, list_any}
use Rattle.std.proofs.lemmas.List.Sums.{sum_by-cons}

module _ {A B : Type 0} (R : A → B → Type 0) where
  -- sums of equal terms
  pub sum_alike : (f : A → ℕ) (g : B → ℕ) → ((x : A) (y : B) → R x y → f x ≡ g y) → (xs : List A) (ys : List B)
      → AllZip R xs ys → sum_by f xs ≡ sum_by g ys
  sum_alike f g each [] [] all = refl
  sum_alike f g each [] (y ∷ ys) all = absurd all
  sum_alike f g each (x ∷ xs) [] all = absurd all
  sum_alike f g each (x ∷ xs) (y ∷ ys) all =
      sum_by-cons f x xs ∙ ap₂ (λ m n. m + n) (each x y all.0) (sum_alike f g each xs ys all.1)
      ∙ sym (sum_by-cons g y ys)

  -- tests that agree find the same
  pub any_alike : (f : A → Bool) (g : B → Bool) → ((x : A) (y : B) → R x y → f x ≡ g y) → (xs : List A) (ys : List B)
      → AllZip R xs ys → list_any f xs ≡ list_any g ys
  any_alike f g each [] [] all = refl
  any_alike f g each [] (y ∷ ys) all = absurd all
  any_alike f g each (x ∷ xs) [] all = absurd all
  any_alike f g each (x ∷ xs) (y ∷ ys) all =
      ap₂ (λ s t. s || t) (each x y all.0) (any_alike f g each xs ys all.1)

  -- what follows of each of the first list from what holds of each of the second
  pub all_alike : (P : A → Type 0) (Q : B → Type 0) → ((x : A) (y : B) → R x y → Q y → P x) → (xs : List A)
      (ys : List B)
      → AllZip R xs ys → AllByRecursion Q ys → AllByRecursion P xs
  all_alike P Q each [] [] all own = tt
  all_alike P Q each [] (y ∷ ys) all own = absurd all
  all_alike P Q each (x ∷ xs) [] all own = absurd all
  all_alike P Q each (x ∷ xs) (y ∷ ys) all own = (each x y all.0 own.0, all_alike P Q each xs ys all.1 own.1)

  -- each element of the second list is like one of the first
  pub with_first : (xs : List A) (ys : List B) → AllZip R xs ys → AllByRecursion (λ y. (x : A) × R x y) ys
  with_first [] [] all = tt
  with_first [] (y ∷ ys) all = absurd all
  with_first (x ∷ xs) [] all = absurd all
  with_first (x ∷ xs) (y ∷ ys) all = ((x, all.0), with_first xs ys all.1)

  -- how elements are alike, with what holds of each of the second list
  pub alike_so : (S : A → B → Type 0) (Q : B → Type 0) → ((x : A) (y : B) → R x y → Q y → S x y) → (xs : List A)
      (ys : List B)
      → AllZip R xs ys → AllByRecursion Q ys → AllZip S xs ys
  alike_so S Q each [] [] all own = tt
  alike_so S Q each [] (y ∷ ys) all own = absurd all
  alike_so S Q each (x ∷ xs) [] all own = absurd all
  alike_so S Q each (x ∷ xs) (y ∷ ys) all own = (each x y all.0 own.0, alike_so S Q each xs ys all.1 own.1)
