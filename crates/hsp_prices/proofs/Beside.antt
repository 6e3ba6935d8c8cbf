-- Lists with what stands beside their elements, and sums over columns of both.
use Rattle.std.proofs.Common.{◌≡◌, ℕ, ◌∙◌, List, [], ◌∷◌, ◌++◌, length, map, take, drop, sum_by, zip}
use Rattle.std.proofs.Common.{get_or, slice_index, refl, ap, sym, arith}
use Rattle.std.specs.List.{AllByRecursion}
use Rattle.std.proofs.lemmas.List.{get_or-map}
use Rattle.std.proofs.lemmas.Slice.Zip.{get_or-zip, length-zip}
use Rattle.hsp_transport.specs.Sums.{sum_below}
use Rattle.hsp_transport.proofs.Summing.{by_place, sum_below_same}

-- nothing stands beside any list
none_beside : {A B : Type 0} (xs : List A) (none : List B) → none ≡ [] → zip xs none ≡ []
none_beside [] none e = refl
none_beside (x ∷ xs) none e = rw e refl

-- two lists in a row, with what stands beside each
pub zip_append : {A B : Type 0} (xs ys : List A) (bs : List B)
    → zip (xs ++ ys) bs ≡ zip xs (take (length xs) bs) ++ zip ys (drop (length xs) bs)
zip_append [] ys bs = refl
zip_append (x ∷ xs) ys [] = sym (none_beside ys [] refl)
zip_append (x ∷ xs) ys (b ∷ bs) = ap (λ t. (x, b) ∷ t) (zip_append xs ys bs)

-- what a function gives of a list, with what stands beside it
pub zip_map : {A B C : Type 0} (f : A → C) (xs : List A) (bs : List B)
    → zip (map f xs) bs ≡ map (λ (x : A × B). (f x.0, x.1)) (zip xs bs)
zip_map f [] bs = refl
zip_map f (x ∷ xs) [] = refl
zip_map f (x ∷ xs) (b ∷ bs) = ap (λ t. (f x, b) ∷ t) (zip_map f xs bs)

-- a list beside what a function gives of it
pub zip_made : {A B : Type 0} (f : A → B) (xs : List A) → zip xs (map f xs) ≡ map (λ x. (x, f x)) xs
zip_made f [] = refl
zip_made f (x ∷ xs) = ap (λ t. (x, f x) ∷ t) (zip_made f xs)

-- what holds of all that a function gives
pub all_given : {A B : Type 0} (Q : B → Type 0) (f : A → B) (xs : List A) → AllByRecursion Q (map f xs)
    → AllByRecursion (λ x. Q (f x)) xs
all_given Q f [] all = tt
all_given Q f (x ∷ xs) all = (all.0, all_given Q f xs all.1)

-- a sum over the places of two columns is one over their elements side by side
pub sum_columns : {A : Type 0} (F : ℕ → ℕ → ℕ) (column : A → ℕ) (d : A) (xs : List A) (ns : List ℕ)
    → length ns ≡ length xs →
    sum_below (length xs) (λ k. F (slice_index (map column xs) k) (slice_index ns k))
    ≡ sum_by (λ (x : A × ℕ). F (column x.0) x.1) (zip xs ns)
sum_columns {A} F column d xs ns many =
    let long : length (zip xs ns) ≡ length xs = omega (arith, length-zip xs ns) in
    sym
    (by_place (λ (x : A × ℕ). F (column x.0) x.1) (d, 0) (zip xs ns)
    ∙ ap (λ n. sum_below n (λ k. F (column (get_or (zip xs ns) k (d, 0)).0) (get_or (zip xs ns) k (d, 0)).1)) long
    ∙ sum_below_same (length xs) _ _ (λ k l.
    ap (λ (x : A × ℕ). F (column x.0) x.1) (get_or-zip xs ns k (d, 0) l (omega arith))
    ∙ ap (λ v. F v (slice_index ns k)) (sym (get_or-map column xs k d 0 l))))
