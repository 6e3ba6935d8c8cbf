-- What holds of all elements of a list, and texts that are put together from pieces.
use Rattle.std.proofs.Common.{◌≡◌, ℕ, zero, suc, List, [], ◌∷◌, ◌++◌, take, refl, append_assoc}
use Rattle.std.specs.List.{AllByRecursion, AllZip}

-- what holds of all of two lists holds of both in a row
pub all_append : {A : Type 0} (P : A → Type 0) (xs ys : List A) → AllByRecursion P xs → AllByRecursion P ys
    → AllByRecursion P (xs ++ ys)
all_append P [] ys all more = more
all_append P (x ∷ xs) ys all more = (all.0, all_append P xs ys all.1 more)

-- what holds of all and of one more
pub all_push : {A : Type 0} (P : A → Type 0) (xs : List A) (x : A) → AllByRecursion P xs → P x
    → AllByRecursion P (xs ++ x ∷ [])
all_push P xs x all p = all_append P xs (x ∷ []) all (p, tt)

-- what holds of all of two lists in a row holds of all of the first
pub all_front : {A : Type 0} (P : A → Type 0) (xs ys : List A) → AllByRecursion P (xs ++ ys) → AllByRecursion P xs
all_front P [] ys all = tt
all_front P (x ∷ xs) ys all = (all.0, all_front P xs ys all.1)

-- and of all of the second
pub all_back : {A : Type 0} (P : A → Type 0) (xs ys : List A) → AllByRecursion P (xs ++ ys) → AllByRecursion P ys
all_back P [] ys all = all
all_back P (x ∷ xs) ys all = all_back P xs ys all.1

-- what holds of two lists place by place, with one element more in each
pub zip_push : {A B : Type 0} (R : A → B → Type 0) (xs : List A) (ys : List B) (x : A) (y : B) → AllZip R xs ys → R x y
    → AllZip R (xs ++ x ∷ []) (ys ++ y ∷ [])
zip_push R [] [] x y all is = (is, tt)
zip_push R [] (b ∷ ys) x y all is = absurd all
zip_push R (a ∷ xs) [] x y all is = absurd all
zip_push R (a ∷ xs) (b ∷ ys) x y all is = (all.0, zip_push R xs ys x y all.1 is)

-- what holds of all holds of the first of them
pub all_take : {A : Type 0} (P : A → Type 0) (n : ℕ) (xs : List A) → AllByRecursion P xs
    → AllByRecursion P (take n xs)
all_take P zero xs all = tt
all_take P (suc n) [] all = tt
all_take P (suc n) (x ∷ xs) all = (all.0, all_take P n xs all.1)

-- three pieces behind a text
pub three_pieces : (out one two three a b c : List ℕ) → one ≡ out ++ a → two ≡ one ++ b → three ≡ two ++ c
    → three ≡ out ++ (a ++ (b ++ c))
three_pieces out one two three a b c p q r =
    rw (r, q, p, append_assoc (out ++ a) b c, append_assoc out a (b ++ c)) refl
