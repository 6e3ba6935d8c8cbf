-- Lists, element by element.
use Rattle.std.proofs.Common.{◌≡◌, ◌≤◌, ◌∙◌, ◌++◌, ◌+◌, ℕ, zero, suc, List, [], ◌∷◌, length, take, None, Some, arith}
use Rattle.std.proofs.Common.{ap}
use Rattle.std.specs.List.{AllZip, slice_get}
use Rattle.std.proofs.lemmas.List.{take_more}
use Rattle.std.proofs.lemmas.Option.{get_or_from_slice_get, same_Some, slice_get_within}

-- one element more is taken
pub take_next : {A : Type 0} (xs : List A) (k : ℕ) (x : A) → slice_get xs k ≡ Some x
    → take (k + 1) xs ≡ take k xs ++ x ∷ []
take_next {A} xs k x e =
    take_more xs k x (slice_get_within xs k x e)
    ∙ ap (λ (own : A). take k xs ++ own ∷ []) (get_or_from_slice_get xs k x x e)

-- where there is no element, the list has come to its end
pub none_from : {A : Type 0} (xs : List A) (k : ℕ) → slice_get xs k ≡ None → length xs ≤ k
none_from [] k none = omega arith
none_from (x ∷ xs) zero none = absurd (cc)
none_from (x ∷ xs) (suc k) none = omega (arith, none_from xs k none)

-- what holds of two lists side by side holds at each place
pub zip_at : {A B : Type 0} (R : A → B → Type 0) (xs : List A) (ys : List B) (k : ℕ) (x : A) (y : B) → AllZip R xs ys
    → slice_get xs k ≡ Some x
    → slice_get ys k ≡ Some y → R x y
zip_at R [] ys k x y all at there = absurd (cc)
zip_at R (a ∷ xs) [] k x y all at there = absurd all
zip_at R (a ∷ xs) (b ∷ ys) zero x y all at there =
    let left : a ≡ x = same_Some a x at in
    let right : b ≡ y = same_Some b y there in
    rw (← left, ← right) all.0
zip_at R (a ∷ xs) (b ∷ ys) (suc k) x y all at there = zip_at R xs ys k x y all.1 at there
