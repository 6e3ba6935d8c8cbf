-- Texts cut at the first octet that passes a test.
use Rattle.std.proofs.Common.{◌≡◌, ℕ, Bool, true, false, List, [], ◌∷◌, ◌++◌, length, length-append, append_assoc, ◌+◌}
use Rattle.std.proofs.Common.{refl, sym, arith}
use Rattle.std.specs.List.{list_any, position_or_len, before_first, after_first}
use Rattle.std.proofs.Math.Seq.{take-append_seam}
use Rattle.std.proofs.lemmas.List.Prefix.{front_rest}

-- what stands before an octet that passes, and after it
pub cut_at : (p : ℕ → Bool) (xs : List ℕ) (y : ℕ) (ys : List ℕ) → list_any p xs ≡ false → p y ≡ true
    → position_or_len p (xs ++ y ∷ ys) ≡ length xs
cut_at p [] y ys a b = rw b refl
cut_at p (x ∷ xs) y ys a b = grind (arith, cut_at p xs y ys)

-- the parts of a text before and after its first octet that passes
pub cut_parts : (p : ℕ → Bool) (xs : List ℕ) (y : ℕ) (ys : List ℕ) → list_any p xs ≡ false → p y ≡ true →
    (before_first p (xs ++ y ∷ ys) ≡ xs) × (after_first p (xs ++ y ∷ ys) ≡ ys)
cut_parts p xs y ys a b =
    let at = cut_at p xs y ys a b in
    let whole : xs ++ y ∷ ys ≡ (xs ++ y ∷ []) ++ ys = sym (append_assoc xs (y ∷ []) ys) in
    let long : length (xs ++ y ∷ []) ≡ length xs + 1 = length-append xs (y ∷ []) in
    rw at (take-append_seam xs (y ∷ ys), rw (← long) (front_rest (xs ++ y ∷ ys) (xs ++ y ∷ []) ys whole))
