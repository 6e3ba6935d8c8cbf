-- A list of which the first part is changed.
use Rattle.std.proofs.Common.{◌≡◌, ◌<◌, ◌+◌, ◌∙◌, ◌++◌, ℕ, List, drop, length, map, ap, arith, get_or, take}
use Rattle.std.proofs.lemmas.List.{drop_more, get_or_at, length-map, length-take-le}

-- at the place that comes next it is as it was
pub half_at : {A : Type 0} (f : A → A) (xs : List A) (i : ℕ) (d : A) → i < length xs
    → get_or (map f (take i xs) ++ drop i xs) i d ≡ get_or xs i d
half_at f xs i d inside =
    let many : length (map f (take i xs)) ≡ i = length-map (take i xs) f ∙ length-take-le i xs (omega arith) in
    ap (λ rest. get_or (map f (take i xs) ++ rest) i d) (drop_more xs i d inside)
    ∙ get_or_at (map f (take i xs)) (get_or xs i d) (drop (i + 1) xs) d i many
