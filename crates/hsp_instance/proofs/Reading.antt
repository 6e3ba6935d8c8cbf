-- Lists that are read one element a turn.
use Rattle.std.proofs.Common.{◌≡◌, ℕ, ◌+◌, ◌∙◌, List, [], ◌∷◌, ◌++◌, Some, take, map, slice_get, option_map, ap, sym}
use Rattle.std.proofs.lemmas.List.{take_more}
use Rattle.std.proofs.lemmas.Option.{slice_get-map, slice_get_within, get_or_from_slice_get}

-- the element that was read, put at the end
pub read_more : {A B : Type 0} (f : A → B) (xs : List A) (i : ℕ) (y : B) (ys : List B)
    → option_map f (slice_get xs i) ≡ Some y →
    ys ≡ take i (map f xs) → ys ++ y ∷ [] ≡ take (i + 1) (map f xs)
read_more f xs i y ys read so_far =
    let there : slice_get (map f xs) i ≡ Some y = slice_get-map f xs i ∙ read in
    let inside = slice_get_within (map f xs) i y there in
    rw so_far
    (sym
    (take_more (map f xs) i y inside
    ∙ ap (λ z. take i (map f xs) ++ z ∷ []) (get_or_from_slice_get (map f xs) i y y there)))
