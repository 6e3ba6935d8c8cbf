-- What holds of all elements of a list, and sums over lists in two orders.
use Rattle.std.proofs.Common.{◌≡◌, ℕ, ◌+◌, ◌∙◌, Bool, true, false, List, [], ◌∷◌, filter, sum_by, refl, ap, ap₂}
use Rattle.std.proofs.Common.{sym}
use Rattle.std.specs.List.{AllByRecursion, list_any}
use Rattle.std.proofs.lemmas.List.Sums.{sum_by-cons}
use Rattle.hsp_transport.proofs.Rowwise.{same_by, sum_by_none}
use Rattle.hsp_transport.proofs.Summing.{sum_by_add}

-- what follows of each from two things that hold of all
pub all_both : {A : Type 0} (P Q R : A → Type 0) (xs : List A) → ((x : A) → P x → Q x → R x) → AllByRecursion P xs
    → AllByRecursion Q xs → AllByRecursion R xs
all_both P Q R [] so all more = tt
all_both P Q R (x ∷ xs) so all more = (so x all.0 more.0, all_both P Q R xs so all.1 more.1)

-- what holds of all holds of those that a filter keeps
pub all_kept : {A : Type 0} (P : A → Type 0) (test : A → Bool) (xs : List A) → AllByRecursion P xs
    → AllByRecursion P (filter test xs)
all_kept P test [] all = tt
all_kept P test (x ∷ xs) all = one (test x) refl (all_kept P test xs all.1)
  where
    one : (t : Bool) → test x ≡ t → AllByRecursion P (filter test xs) → AllByRecursion P (filter test (x ∷ xs))
    one true e more = rw e (all.0, more)
    one false e more = rw e more

-- tests that agree on all elements keep the same
pub same_kept : {A : Type 0} (f g : A → Bool) (xs : List A) → AllByRecursion (λ a. f a ≡ g a) xs
    → filter f xs ≡ filter g xs
same_kept f g [] all = refl
same_kept f g (x ∷ xs) all = rw (all.0, same_kept f g xs all.1) refl

-- tests that agree find the same
pub any_alike : {A : Type 0} (f g : A → Bool) → ((x : A) → f x ≡ g x) → (xs : List A) → list_any f xs ≡ list_any g xs
any_alike f g same [] = refl
any_alike f g same (x ∷ xs) = rw (same x, any_alike f g same xs) refl

-- equal terms of all elements add up to the same
pub same_sum : {A : Type 0} (f g : A → ℕ) (xs : List A) → AllByRecursion (λ a. f a ≡ g a) xs
    → sum_by f xs ≡ sum_by g xs
same_sum f g [] all = refl
same_sum f g (x ∷ xs) all =
    sum_by-cons f x xs ∙ ap₂ (λ m n. m + n) all.0 (same_sum f g xs all.1) ∙ sym (sum_by-cons g x xs)

-- a sum over two lists may be taken in either order
pub sum_turned : {A B : Type 0} (f : A → B → ℕ) (xs : List A) (ys : List B)
    → sum_by (λ x. sum_by (λ y. f x y) ys) xs ≡ sum_by (λ y. sum_by (λ x. f x y) xs) ys
sum_turned f [] ys = sym (sum_by_none ys)
sum_turned f (x ∷ xs) ys =
    sum_by-cons (λ x. sum_by (λ y. f x y) ys) x xs
    ∙ ap (λ v. sum_by (λ y. f x y) ys + v) (sum_turned f xs ys)
    ∙ sym (sum_by_add (λ y. f x y) (λ y. sum_by (λ x. f x y) xs) ys)
    ∙ same_by _ _ ys (λ y. sym (sum_by-cons (λ x. f x y) x xs))
