-- Elements of lists, and what holds of all.
use Rattle.std.proofs.Common.{◌≡◌, ◌∙◌, ◌⊎◌, inl, inr, ◌≤◌, ◌<◌, Bool, true, false, ℕ, zero, suc, ◌+◌, List, [], ◌∷◌}
use Rattle.std.proofs.Common.{◌++◌, Some, drop, length, map, option_map, take, refl, ap, add-one, arith}
use Rattle.std.proofs.Math.Seq.{drop-cons, take-length}
use Rattle.std.proofs.lemmas.Bool.{both_ways, cases_order}
use Rattle.std.proofs.lemmas.List.{map-append, take_more}
use Rattle.std.proofs.lemmas.List.Elements.{All-from_recursion}
use Rattle.std.proofs.lemmas.Map.Keys.{apart_from_distinct}
use Rattle.std.proofs.lemmas.Option.{get_or_from_slice_get, slice_get_cases, slice_get_within}
use Rattle.std.proofs.lemmas.List.Sums.{sum_by_more}
use Rattle.std.specs.List.{AllByRecursion, IsDistinct, find, slice_get, sum_by}

-- what is left of a list from an element on is the element and the rest
pub drop_at : {A : Type 0} (xs : List A) (i : ℕ) (x : A) → slice_get xs i ≡ Some x → drop i xs ≡ x ∷ drop (i + 1) xs
drop_at xs i x e = rw (add-one, drop-cons xs i x (slice_get_within xs i x e), get_or_from_slice_get xs i x x e) refl

-- what holds of all holds of each
pub all_at : {A : Type 0} (P : A → Type 0) (xs : List A) (i : ℕ) (x : A) → AllByRecursion P xs → slice_get xs i ≡ Some x
    → P x
all_at P xs i x all e =
    rw (get_or_from_slice_get xs i x x e) at (All-from_recursion P xs all i x (slice_get_within xs i x e))

-- each place below the length has an element
pub there : {A : Type 0} (xs : List A) (i : ℕ) → i < length xs → (x : A) × (slice_get xs i ≡ Some x)
there xs i less = grind (arith, slice_get_cases xs i)

-- what a function gives of one more element
pub map_take_next : {A B : Type 0} (f : A → B) (xs : List A) (i : ℕ) (x : A) → slice_get xs i ≡ Some x
    → map f (take (i + 1) xs) ≡ map f (take i xs) ++ f x ∷ []
map_take_next f xs i x e =
    ap (map f)
    (take_more xs i x (slice_get_within xs i x e)
    ∙ ap (λ y. take i xs ++ y ∷ []) (get_or_from_slice_get xs i x x e)) ∙ map-append f (take i xs) (x ∷ [])

-- as many elements as there are are all
pub take_whole : {A : Type 0} (xs : List A) → take (length xs) xs ≡ xs
take_whole = take-length

-- what follows of each from what holds of all
pub all_so : {A : Type 0} (P Q : A → Type 0) (xs : List A) → ((x : A) → P x → Q x) → AllByRecursion P xs
    → AllByRecursion Q xs
all_so P Q [] so all = tt
all_so P Q (x ∷ xs) so all = (so x all.0, all_so P Q xs so all.1)

-- what holds of all that a function gives
pub all_map : {A B : Type 0} (P : A → Type 0) (Q : B → Type 0) (f : A → B) (xs : List A) → ((x : A) → P x → Q (f x))
    → AllByRecursion P xs → AllByRecursion Q (map f xs)
all_map P Q f [] each all = tt
all_map P Q f (x ∷ xs) each all = (each x all.0, all_map P Q f xs each all.1)

-- an element of the first of two lists in a row, and one of the second
pub front_at : {A : Type 0} (xs ys : List A) (i : ℕ) (x : A) → slice_get xs i ≡ Some x → slice_get (xs ++ ys) i ≡ Some x
front_at [] ys i x e = grind arith
front_at (y ∷ xs) ys zero x e = e
front_at (y ∷ xs) ys (suc i) x e = front_at xs ys i x e

-- an element of the second of two lists in a row, by its place behind the first
pub back_at : {A : Type 0} (xs ys : List A) (i : ℕ) → slice_get (xs ++ ys) (length xs + i) ≡ slice_get ys i
back_at [] ys i = let e : 0 + i ≡ i = omega arith in rw e refl
back_at (x ∷ xs) ys i = let e : suc (length xs) + i ≡ suc (length xs + i) = omega arith in rw e (back_at xs ys i)

-- two functions in turn
pub map_twice : {A B C : Type 0} (f : A → B) (g : B → C) (xs : List A) → map g (map f xs) ≡ map (λ x. g (f x)) xs
map_twice f g [] = refl
map_twice f g (x ∷ xs) = ap (λ t. g (f x) ∷ t) (map_twice f g xs)

-- the number of what is found is within a limit that all keep
pub found_within : {A : Type 0} (P : A → Type 0) (most : ℕ) (f : A → ℕ) (test : A → Bool) (xs : List A) (n : ℕ)
    → ((x : A) → P x → f x ≤ most) → AllByRecursion P xs → option_map f (find test xs) ≡ Some n → n ≤ most
found_within P most f test [] n each all e = grind arith
found_within P most f test (x ∷ xs) n each all e =
    grind (arith, each x all.0, found_within P most f test xs n each all.1)

-- what holds at each place holds of all
pub all_from : {A : Type 0} (P : A → Type 0) (xs : List A) → ((i : ℕ) (x : A) → slice_get xs i ≡ Some x → P x)
    → AllByRecursion P xs
all_from P [] each = tt
all_from P (x ∷ xs) each = (each zero x refl, all_from P xs (λ i y at. each (suc i) y at))

-- an element of two lists in a row is of the first or of the second
pub append_at : {A : Type 0} (xs ys : List A) (i : ℕ) (x : A) → slice_get (xs ++ ys) i ≡ Some x
    → (slice_get xs i ≡ Some x) ⊎ ((j : ℕ) × (i ≡ length xs + j) × (slice_get ys j ≡ Some x))
append_at [] ys i x at = inr (i, omega arith, at)
append_at (z ∷ xs) ys zero x at = inl at
append_at (z ∷ xs) ys (suc i) x at =
    elim (append_at xs ys i x at) [ inl here ↦ inl here | inr (j, is, later) ↦ inr (j, omega arith, later) ]

-- an element of a list and one more is of the list or the last
pub pushed_at : {A : Type 0} (xs : List A) (y : A) (i : ℕ) (x : A) → slice_get (xs ++ y ∷ []) i ≡ Some x
    → (slice_get xs i ≡ Some x) ⊎ ((i ≡ length xs) × (x ≡ y))
pushed_at [] y zero x at = grind arith
pushed_at [] y (suc i) x at = grind arith
pushed_at (z ∷ xs) y zero x at = inl at
pushed_at (z ∷ xs) y (suc i) x at =
    elim (pushed_at xs y i x at) [ inl here ↦ inl here | inr last ↦ inr (ap suc last.0, last.1) ]

-- elements that are alike stand at one place of a list that has each once
pub one_place : {A : Type 0} (same : A → A → Bool) → ((x y : A) → same x y ≡ true → same y x ≡ true)
    → (xs : List A) (i j : ℕ) (a b : A)
    → IsDistinct same xs → slice_get xs i ≡ Some a → slice_get xs j ≡ Some b → same a b ≡ true → i ≡ j
one_place same flips xs i j a b apart p q e =
    let a_is = get_or_from_slice_get xs i a a p in
    let b_is = get_or_from_slice_get xs j b a q in
    elim (cases_order i j) [
      | inl is ↦ is
      | inr (inl less) ↦
          absurd
          (both_ways (same a b)
          (rw (a_is, b_is) at (apart_from_distinct same xs i j a apart less (slice_get_within xs j b q))) e)
      | inr (inr more) ↦
          absurd
          (both_ways (same b a)
          (rw (a_is, b_is) at (apart_from_distinct same xs j i a apart more (slice_get_within xs i a p))) (flips a b e))
    ]

-- what a function gives of distinct elements is distinct, where equal keys stay equal
pub distinct_map : {A B : Type 0} (same : A → A → Bool) (alike : B → B → Bool) (f : A → B) (xs : List A)
    → ((x y : A) → alike (f x) (f y) ≡ same x y) → IsDistinct same xs → IsDistinct alike (map f xs)
unfolding IsDistinct
distinct_map same alike f [] tells apart = tt
distinct_map {A} {B} same alike f (x ∷ xs) tells apart = (
  all_map (λ (y : A). same x y ≡ false) (λ (y : B). alike (f x) y ≡ false) f xs (λ y other. tells x y ∙ other)
      apart.0,
  distinct_map same alike f xs tells apart.1,
)

-- how many elements lists have together, with one list more
pub count_next : {A : Type 0} (lists : List (List A)) (k : ℕ) (list : List A) → slice_get lists k ≡ Some list
    → sum_by (λ xs. length xs) (take (k + 1) lists) ≡ sum_by (λ xs. length xs) (take k lists) + length list
count_next lists k list read =
    rw (get_or_from_slice_get lists k list list read) at
    (sum_by_more (λ xs. length xs) lists k list (slice_get_within lists k list read))
