-- Sums over the numbers below a bound, and over lists.
use Rattle.std.proofs.Common.{◌≡◌, ℕ, zero, suc, ◌+◌, ◌*◌, ◌<◌, ◌≤◌, ◌==◌, inl, inr, List, [], ◌∷◌, length, sum_by, All}
use Rattle.std.proofs.Common.{if◌then◌else◌, refl, ap, ap₂, sym, ◌∙◌, arith, mul-zero, mul-add, eq-eqb, ne_eqb, add-one}
use Rattle.std.proofs.Common.{take, take_all, slice_index_or, map}
use Rattle.std.proofs.lemmas.List.Sums.{sum_by-cons, sum_by_more}
use Rattle.std.proofs.lemmas.List.Elements.{All-head, All-tail}
use Rattle.std.proofs.lemmas.Bool.{cases_eq}
use Rattle.std.proofs.lemmas.List.Folds.{fold-map}
use Rattle.hsp_transport.specs.Sums.{sum_below}

-- sums of equal terms
pub sum_below_same : (n : ℕ) (f g : ℕ → ℕ) → ((k : ℕ) → k < n → f k ≡ g k) → sum_below n f ≡ sum_below n g
sum_below_same zero f g h = refl
sum_below_same (suc n) f g h =
    ap₂ (λ a b. a + b) (sum_below_same n f g (λ k l. h k (omega arith))) (h n (omega arith))

-- sums of larger terms
pub sum_below_le : (n : ℕ) (f g : ℕ → ℕ) → ((k : ℕ) → k < n → f k ≤ g k) → sum_below n f ≤ sum_below n g
sum_below_le zero f g h = omega arith
sum_below_le (suc n) f g h =
    let a : sum_below n f ≤ sum_below n g = sum_below_le n f g (λ k l. h k (omega arith)) in
    let b : f n ≤ g n = h n (omega arith) in
    omega arith

-- terms that are zero add up to zero
pub sum_below_zero : (n : ℕ) (f : ℕ → ℕ) → ((k : ℕ) → k < n → f k ≡ 0) → sum_below n f ≡ 0
sum_below_zero zero f h = refl
sum_below_zero (suc n) f h =
    let a : sum_below n f ≡ 0 = sum_below_zero n f (λ k l. h k (omega arith)) in
    let b : f n ≡ 0 = h n (omega arith) in
    omega arith

-- the sum of two terms each is the sum of the two sums
pub sum_below_add : (n : ℕ) (f g : ℕ → ℕ) → sum_below n (λ k. f k + g k) ≡ sum_below n f + sum_below n g
sum_below_add zero f g = refl
sum_below_add (suc n) f g =
    let a : sum_below n (λ k. f k + g k) ≡ sum_below n f + sum_below n g = sum_below_add n f g in
    omega arith

-- the first term apart from the others
pub sum_below_first : (n : ℕ) (f : ℕ → ℕ) → sum_below (suc n) f ≡ f 0 + sum_below n (λ k. f (suc k))
sum_below_first zero f = omega arith
sum_below_first (suc n) f =
    let rest : sum_below (suc n) f ≡ f 0 + sum_below n (λ k. f (suc k)) = sum_below_first n f in omega arith

-- only one term
pub sum_below_one : (n : ℕ) (f : ℕ → ℕ) (i : ℕ) → i < n → ((k : ℕ) → k < n → (k ≡ i → ⊥) → f k ≡ 0)
    → sum_below n f ≡ f i
sum_below_one zero f i l h = absurd (omega arith)
sum_below_one (suc n) f i l h = elim (cases_eq n i) [
  | inl e ↦
      let z : sum_below n f ≡ 0 = sum_below_zero n f (λ k m. h k (omega arith) (λ q. omega arith)) in
      let same : f n ≡ f i = ap f e in
      omega arith
  | inr ne ↦
      let a : sum_below n f ≡ f i = sum_below_one n f i (omega arith) (λ k m. h k (omega arith)) in
      let b : f n ≡ 0 = h n (omega arith) ne in
      omega arith
]

module _ {A : Type 0} where
  -- equal terms of a list add up to the same
  pub sum_by_same_all : (f g : A → ℕ) (xs : List A) → All (λ a. f a ≡ g a) xs → sum_by f xs ≡ sum_by g xs
  sum_by_same_all f g [] h = refl
  sum_by_same_all f g (x ∷ xs) h =
      let a : f x ≡ g x = All-head (λ a. f a ≡ g a) x xs h in
      let b : sum_by f xs ≡ sum_by g xs = sum_by_same_all f g xs (All-tail (λ a. f a ≡ g a) x xs h) in
      sum_by-cons f x xs ∙ ap₂ (λ m n. m + n) a b ∙ sym (sum_by-cons g x xs)

  -- terms that are no greater add up to no more
  pub sum_by_le_all : (f g : A → ℕ) (xs : List A) → All (λ a. f a ≤ g a) xs → sum_by f xs ≤ sum_by g xs
  sum_by_le_all f g [] h = omega arith
  sum_by_le_all f g (x ∷ xs) h =
      let a : f x ≤ g x = All-head (λ a. f a ≤ g a) x xs h in
      let b : sum_by f xs ≤ sum_by g xs = sum_by_le_all f g xs (All-tail (λ a. f a ≤ g a) x xs h) in
      omega (arith, sum_by-cons f x xs, sum_by-cons g x xs)

  -- the sum of two terms for each element is the sum of the two sums
  pub sum_by_add : (f g : A → ℕ) (xs : List A) → sum_by (λ a. f a + g a) xs ≡ sum_by f xs + sum_by g xs
  sum_by_add f g [] = refl
  sum_by_add f g (x ∷ xs) =
      let b : sum_by (λ a. f a + g a) xs ≡ sum_by f xs + sum_by g xs = sum_by_add f g xs in
      omega (arith, sum_by-cons f x xs, sum_by-cons g x xs, sum_by-cons (λ a. f a + g a) x xs)

  -- a factor of all terms is one of their sum
  pub sum_by_times : (k : ℕ) (f : A → ℕ) (xs : List A) → sum_by (λ a. k * f a) xs ≡ k * sum_by f xs
  sum_by_times k f [] = sym (mul-zero k)
  sum_by_times k f (x ∷ xs) =
      sum_by-cons (λ a. k * f a) x xs ∙ ap (λ s. k * f x + s) (sum_by_times k f xs)
      ∙ sym (mul-add k (f x) (sum_by f xs)) ∙ sym (ap (λ s. k * s) (sum_by-cons f x xs))

  -- a weight that depends only on a key: the sum over the elements is the sum over the keys
  pub by_key : (key : A → ℕ) (f : A → ℕ) (w : ℕ → ℕ) (n : ℕ) (xs : List A) → All (λ a. key a < n) xs →
      sum_by (λ a. w (key a) * f a) xs ≡ sum_below n (λ k. w k * sum_by (λ a. if key a == k then f a else 0) xs)
  by_key key f w n [] h = sym (sum_below_zero n (λ k. w k * 0) (λ k l. mul-zero (w k)))
  by_key key f w n (x ∷ xs) h =
      let at = λ (k : ℕ). if key x == k then f x else 0 in
      let rest = λ (k : ℕ). sum_by (λ a. if key a == k then f a else 0) xs in
      let l : key x < n = All-head (λ a. key a < n) x xs h in
      let a : sum_by (λ a. w (key a) * f a) xs ≡ sum_below n (λ k. w k * rest k) =
      by_key key f w n xs (All-tail (λ a. key a < n) x xs h) in
      let here : at (key x) ≡ f x = rw (eq-eqb (key x) (key x) refl) in
      let one : sum_below n (λ k. w k * at k) ≡ w (key x) * at (key x) =
      sum_below_one n (λ k. w k * at k) (key x) l
      (λ k m ne. let e : at k ≡ 0 = rw (ne_eqb (key x) k (λ q. ne (sym q))) in ap (λ v. w k * v) e ∙ mul-zero (w k)) in
      let split : sum_below n (λ k. w k * sum_by (λ a. if key a == k then f a else 0) (x ∷ xs))
      ≡ sum_below n (λ k. w k * at k + w k * rest k) =
      sum_below_same n _ _
      (λ k m. ap (λ v. w k * v) (sum_by-cons (λ a. if key a == k then f a else 0) x xs)
      ∙ mul-add (w k) (at k) (rest k)) in
      let w-here : w (key x) * at (key x) ≡ w (key x) * f x = ap (λ v. w (key x) * v) here in
      let sums : sum_below n (λ k. w k * at k + w k * rest k)
      ≡ sum_below n (λ k. w k * at k) + sum_below n (λ k. w k * rest k) =
      sum_below_add n (λ k. w k * at k) (λ k. w k * rest k) in
      sum_by-cons (λ a. w (key a) * f a) x xs ∙ ap₂ (λ m n. m + n) (sym (one ∙ w-here)) a ∙ sym sums ∙ sym split

-- a sum over what a function gives is one over what it is given
pub sum_by_map : {A B : Type 0} (g : B → ℕ) (f : A → B) (xs : List A) → sum_by g (map f xs) ≡ sum_by (λ x. g (f x)) xs
sum_by_map g f xs = fold-map (λ s b. s + g b) f 0 xs

-- the sum over a list is the sum over its places
module _ {A : Type 0} (g : A → ℕ) (d : A) (xs : List A) where
  -- the sum over the first elements goes place by place
  along_take : (n : ℕ) → n ≤ length xs → sum_by g (take n xs) ≡ sum_below n (λ k. g (slice_index_or xs k d))
  along_take zero l = refl
  along_take (suc n) l =
      let here : n < length xs = omega arith in
      rw add-one at (sum_by_more g xs n d here) ∙ ap (λ s. s + g (slice_index_or xs n d)) (along_take n (omega arith))

  -- the sum over a list goes place by place
  pub by_place : sum_by g xs ≡ sum_below (length xs) (λ k. g (slice_index_or xs k d))
  by_place = ap (λ ys. sum_by g ys) (sym (take_all (length xs) xs (omega arith))) ∙ along_take (length xs) (omega arith)
