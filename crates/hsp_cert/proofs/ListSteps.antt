-- Lists that a draft makes longer, one element after another: tests of them, and what may come next.
use Rattle.std.proofs.Common.{◌≡◌, ◌<◌, ◌-◌, ℕ, suc, Bool, true, false, List, [], ◌∷◌, ◌++◌, length, Some, refl}
use Rattle.std.proofs.Common.{ap, ◌∙◌, arith, length-append, eq-eqb}
use Rattle.std.specs.Prelude.{◌==◌, ◌&&◌, nat_lt, slice_get}
use Rattle.std.specs.List.{list_all}
use Rattle.std.proofs.lemmas.Bool.{and_parts, and_from, eqb-true}
use Rattle.std.proofs.lemmas.Bool.Decides.{nat_tests}
use Rattle.std.proofs.lemmas.List.{nil_from_length}
use Rattle.std.proofs.lemmas.List.Folds.{list_all-append}
use Rattle.std.proofs.lemmas.Option.{slice_get-get_or}
use Rattle.std.proofs.Math.Seq.{get_or-append_seam}
use Rattle.hsp_cert.specs.Certificate.{is_price, goes_on_from, ascends_from, ascends}
use Rattle.hsp_cert.specs.Drafts.{when, last, is_next, is_none}
use Rattle.hsp_text.proofs.Steps.{lt_true}

-- what is not empty has an octet
pub some_left : (rest : List ℕ) → (length rest == 0) ≡ false → 0 < length rest
some_left [] h = absurd cc
some_left (x ∷ rest) h = omega arith

-- a list that is none is empty
pub none_is : {A : Type 0} (xs : List A) → is_none xs ≡ true → xs ≡ []
none_is xs h = nil_from_length xs (eqb-true (length xs) 0 h)

-- a test passes for all and for one more
pub all_push : {A : Type 0} (p : A → Bool) (xs : List A) (x : A) → list_all p xs ≡ true → p x ≡ true
    → list_all p (xs ++ x ∷ []) ≡ true
all_push p xs x h k =
    list_all-append p xs (x ∷ []) ∙ and_from (list_all p xs) (p x && true) h (and_from (p x) true k refl)

-- the last element is the one that was put last
pub last_push : {A : Type 0} (xs : List A) (x : A) → last (xs ++ x ∷ []) ≡ Some x
last_push xs x =
    let at : length (xs ++ x ∷ []) - 1 ≡ length xs = omega (arith, length-append xs (x ∷ [])) in
    rw at (slice_get-get_or (xs ++ x ∷ []) (length xs) x (omega (arith, length-append xs (x ∷ [])))
    ∙ ap (λ y. Some y) (get_or-append_seam xs x [] x))

-- an ascending list stays so by an element that goes on from its last
ascends_behind : {A : Type 0} (before : A → A → Bool) (y : A) (xs : List A) (x : A)
    → ascends_from before (Some y) xs ≡ true → goes_on_from before (slice_get (y ∷ xs) (length xs)) x ≡ true
    → ascends_from before (Some y) (xs ++ x ∷ []) ≡ true
ascends_behind before y [] x h k = and_from (before y x) true k refl
ascends_behind before y (z ∷ xs) x h k =
    let b = and_parts (before y z) (ascends_from before (Some z) xs) h in
    and_from (before y z) (ascends_from before (Some z) (xs ++ x ∷ [])) b.0 (ascends_behind before z xs x b.1 k)

-- an ascending list goes on where its last comes before the next
pub ascends_push : {A : Type 0} (before : A → A → Bool) (xs : List A) (x : A) → ascends before xs ≡ true
    → goes_on_from before (last xs) x ≡ true → ascends before (xs ++ x ∷ []) ≡ true
ascends_push before [] x h k = refl
ascends_push before (y ∷ xs) x h k =
    let at : suc (length xs) - 1 ≡ length xs = omega arith in ascends_behind before y xs x h (rw at at k)

-- ---- what may come next

-- what is there under a condition is there, and the condition holds
pub when_taken : {A : Type 0} (t : Bool) (x y : A) → when t x ≡ Some y → (t ≡ true) × (x ≡ y)
when_taken true x y h = (refl, cc)
when_taken false x y h = absurd cc

-- a price that may come next has the next number and keeps to the limits
pub next_facts : (most : ℕ) (ps : List ℕ) (n p : ℕ) → is_next most ps n p ≡ true
    → (n ≡ length ps) × (n < most) × (is_price p ≡ true)
next_facts most ps n p h =
    let a = and_parts (n == length ps && nat_lt n most) (is_price p) h in
    let b = and_parts (n == length ps) (nat_lt n most) a.0 in
    let lt : n < most = let t = b.1 in grind (arith, nat_tests) in
    (eqb-true n (length ps) b.0, lt, a.1)

-- the next price within the limits may come next
pub next_is : (most : ℕ) (ps : List ℕ) (p : ℕ) → length ps < most → is_price p ≡ true
    → is_next most ps (length ps) p ≡ true
next_is most ps p less h =
    and_from (length ps == length ps && nat_lt (length ps) most) (is_price p)
    (and_from (length ps == length ps) (nat_lt (length ps) most) (eq-eqb (length ps) (length ps) refl)
    (lt_true (length ps) most less)) h
