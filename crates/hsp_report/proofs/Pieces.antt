-- Texts that are appended piece by piece.
use Rattle.std.proofs.Common.{◌≡◌, ◌∙◌, ℕ, ◌+◌, List, [], ◌∷◌, ◌++◌, refl, arith, append_assoc}
use Rattle.std.specs.List.{flat_map, range_with_len}
use Rattle.std.proofs.lemmas.List.{flat_map_more, map-id}
use Rattle.std.proofs.lemmas.List.FromFn.{map-range_with_len_more}
use Rattle.hsp_text.proofs.Lists.{three_pieces}

-- five pieces behind a text
pub five_pieces : (out one two three four five a b c d e : List ℕ) → one ≡ out ++ a → two ≡ one ++ b → three ≡ two ++ c
    → four ≡ three ++ d → five ≡ four ++ e →
    five ≡ out ++ (a ++ (b ++ (c ++ (d ++ e))))
five_pieces out one two three four five a b c d e p q r s t =
    three_pieces (out ++ a) two three five b c (d ++ e) (rw p at q) r (rw (t, s, append_assoc three d e) refl)
    ∙ append_assoc out a (b ++ (c ++ (d ++ e)))

-- the numbers below a bound, and one more
one_longer : (n : ℕ) → range_with_len 0 (n + 1) ≡ range_with_len 0 n ++ n ∷ []
one_longer n =
    rw (map-id (range_with_len 0 (n + 1)), map-id (range_with_len 0 n)) at
    (map-range_with_len_more (λ k. k) 0 n n (omega arith))

-- the line of one number more
pub line_more : (f : ℕ → List ℕ) (old out new line : List ℕ) (n : ℕ) → out ≡ old ++ flat_map f (range_with_len 0 n)
    → line ≡ f n → new ≡ out ++ line → new ≡ old ++ flat_map f (range_with_len 0 (n + 1))
line_more f old out new line n so_far is added =
    rw (one_longer n) (added ∙ rw (so_far, is) (flat_map_more f old (range_with_len 0 n) n))
