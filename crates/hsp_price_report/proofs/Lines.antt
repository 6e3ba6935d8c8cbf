-- Lines of a report, one after another.
use Rattle.std.proofs.Common.{◌≡◌, ◌∙◌, ◌+◌, ◌<◌, ◌++◌, ℕ, zero, suc, List, [], length, take, get_or, ap, ap₂}
use Rattle.std.proofs.Common.{arith, refl, subst, sym}
use Rattle.std.specs.List.{flat_map, range_with_len}
use Rattle.std.proofs.lemmas.List.{flat_map_more, take_more}
use Rattle.hsp_report.proofs.Pieces.{line_more}

-- the line of one thing more
pub line_next : {A : Type 0} (f : A → List ℕ) (old out new : List ℕ) (xs : List A) (i : ℕ) (d : A) → i < length xs
    → out ≡ old ++ flat_map f (take i xs) → new ≡ out ++ f (get_or xs i d) → new ≡ old ++ flat_map f (take (i + 1) xs)
line_next f old out new xs i d l so_far added =
    rw (take_more xs i d l)
    (added ∙ ap (λ text. text ++ f (get_or xs i d)) so_far ∙ flat_map_more f old (take i xs) (get_or xs i d))

-- the lines of the numbers below a bound, and one more
behind : (f : ℕ → List ℕ) (n : ℕ)
    → flat_map f (range_with_len 0 n) ++ f n ≡ flat_map f (range_with_len 0 (n + 1))
behind f n = line_more f [] (flat_map f (range_with_len 0 n)) _ (f n) n refl refl refl

-- lines that are the same
pub lines_same : (f g : ℕ → List ℕ) (n : ℕ) → ((j : ℕ) → j < n → f j ≡ g j)
    → flat_map f (range_with_len 0 n) ≡ flat_map g (range_with_len 0 n)
lines_same f g zero same = refl
lines_same f g (suc n) same =
    let before = lines_same f g n (λ j l. same j (omega (arith, l))) in
    let one : n + 1 ≡ suc n = omega arith in
    subst (λ m. flat_map f (range_with_len 0 m) ≡ flat_map g (range_with_len 0 m)) one
    (sym (behind f n) ∙ ap₂ (λ a b. a ++ b) before (same n (omega arith)) ∙ behind g n)
