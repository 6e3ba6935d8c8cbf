-- Elements of lists, and those that a test finds.
use Rattle.std.proofs.Common.{◌≡◌, ◌∙◌, ℕ, zero, suc, Bool, true, false, List, [], ◌∷◌, Some, length, option_map, refl}
use Rattle.std.proofs.Common.{ap, sym, arith}
use Rattle.std.proofs.lemmas.List.Elements.{All-contains, All-from_recursion}
use Rattle.std.proofs.lemmas.List.Folds.{find_at}
use Rattle.std.proofs.lemmas.Option.{get_or_from_slice_get, slice_get-get_or, slice_get_within}
use Rattle.std.specs.List.{AllByRecursion, Contains, IsDistinct, find, position_or_len, slice_get}
use Rattle.hsp_instance.proofs.Lists.{all_at}

-- an element stands at a place
pub place_of : {A : Type 0} (xs : List A) (x : A) → Contains xs x → (i : ℕ) × (slice_get xs i ≡ Some x)
place_of xs x is = (is.0, slice_get-get_or xs is.0 x is.1 ∙ ap (λ y. Some y) is.2)

-- an element at a place is in the list
pub is_at_place : {A : Type 0} (xs : List A) (x : A) (i : ℕ) → slice_get xs i ≡ Some x → Contains xs x
is_at_place xs x i at = (i, slice_get_within xs i x at, get_or_from_slice_get xs i x x at)

-- what holds of all holds of an element
pub all_of : {A : Type 0} (P : A → Type 0) (xs : List A) (x : A) → AllByRecursion P xs → Contains xs x → P x
all_of P xs x all is = All-contains P xs x (All-from_recursion P xs all) is

-- an element of one more
pub first_or_later : {A : Type 0} (y : A) (xs : List A) (x : A) (i : ℕ) → slice_get (y ∷ xs) i ≡ Some x → (◌≡◌ y x → ⊥)
    → (j : ℕ) × (slice_get xs j ≡ Some x)
first_or_later y xs x zero at other = let same : y ≡ x = cc (at) in absurd (other same)
first_or_later y xs x (suc i) at other = (i, at)

-- what a test finds passes it
passes : {A : Type 0} (test : A → Bool) (xs : List A) (x : A) → find test xs ≡ Some x → test x ≡ true
passes test [] x e = grind arith
passes test (y ∷ xs) x e = grind (arith, passes test xs x)

-- what is found is an element that passes
pub found : {A : Type 0} (test : A → Bool) (xs : List A) (x : A) → find test xs ≡ Some x
    → Contains xs x × (test x ≡ true)
found test xs x e = (is_at_place xs x (position_or_len test xs) (sym (find_at test xs) ∙ e), passes test xs x e)

-- the one element that passes is found
finds_at : {A : Type 0} (same : A → A → Bool) (test : A → Bool)
    → ((a b : A) → test a ≡ true → test b ≡ true → same a b ≡ true)
    → (xs : List A) (i : ℕ) (x : A) → IsDistinct same xs → slice_get xs i ≡ Some x → test x ≡ true
    → find test xs ≡ Some x
unfolding IsDistinct
finds_at same test alike [] i x apart at passes = grind arith
finds_at same test alike (y ∷ xs) zero x apart at passes = grind arith
finds_at same test alike (y ∷ xs) (suc i) x apart at passes =
    grind (
      arith,
      finds_at same test alike xs i x apart.1 at passes,
      alike y x,
      all_at (λ z. same y z ≡ false) xs i x apart.0 at,
    )

-- an element that passes is found where no other one passes
pub finds : {A : Type 0} (same : A → A → Bool) (test : A → Bool)
    → ((a b : A) → test a ≡ true → test b ≡ true → same a b ≡ true)
    → (xs : List A) (x : A) → IsDistinct same xs → Contains xs x → test x ≡ true → find test xs ≡ Some x
finds same test alike xs x apart is passes =
    let at = place_of xs x is in finds_at same test alike xs at.0 x apart at.1 passes

-- the rows that a test finds are those of a number, and the test and the key tell no two of them apart
pub record AreOf {Row : Type 0} (test : Row → Bool) (same : Row → Row → Bool) (number : Row → ℕ)
    (row_of : ℕ → Row) : Type 0 where
  pub is : (row : Row) → test row ≡ true → row ≡ row_of (number row)
  pub passes : (n : ℕ) → test (row_of n) ≡ true
  pub has : (n : ℕ) → number (row_of n) ≡ n
  pub alike : (m n : ℕ) → same (row_of m) (row_of n) ≡ true

module _ {Row : Type 0} {test : Row → Bool} {same : Row → Row → Bool} {number : Row → ℕ} {row_of : ℕ → Row}
    (are : AreOf test same number row_of) (rows : List Row) (n : ℕ) where
  -- the number that is found is that of one of the rows
  pub number_is : option_map number (find test rows) ≡ Some n → Contains rows (row_of n)
  number_is e =
      let read : (row : Row) × (find test rows ≡ Some row) × (number row ≡ n) = grind arith in
      let at = found test rows read.0 read.1 in
      rw (are.is read.0 at.1 ∙ ap row_of read.2) at at.0

  -- and that of one of the rows is found
  pub number_is_found : IsDistinct same rows → Contains rows (row_of n) → option_map number (find test rows) ≡ Some n
  number_is_found apart is =
      let alike : (a b : Row) → test a ≡ true → test b ≡ true → same a b ≡ true =
      λ a b p q. rw (are.is a p, are.is b q) (are.alike (number a) (number b)) in
      rw (finds same test alike rows (row_of n) apart is (are.passes n)) (ap Some (are.has n))

-- lists with the same elements at all places are one
pub same_places : {A : Type 0} (xs ys : List A) → length xs ≡ length ys
    → ((i : ℕ) (x : A) → slice_get xs i ≡ Some x → slice_get ys i ≡ Some x) → xs ≡ ys
same_places [] [] long each = refl
same_places [] (y ∷ ys) long each = absurd (omega arith)
same_places (x ∷ xs) [] long each = absurd (omega arith)
same_places (x ∷ xs) (y ∷ ys) long each =
    let head : y ≡ x = let at = each 0 x refl in cc (at) in
    let tail : xs ≡ ys = same_places xs ys (omega arith) (λ i z at. each (suc i) z at) in
    cc (head, tail)
