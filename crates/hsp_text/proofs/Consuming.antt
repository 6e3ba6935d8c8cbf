-- What was taken from a reader, piece by piece.
use Rattle.std.proofs.Common.{◌≡◌, ◌≢◌, ◌≤◌, ◌∙◌, ℕ, suc, List, [], ◌∷◌, ◌++◌, length, take, get_or, Option, Some, None}
use Rattle.std.proofs.Common.{false, refl, sym, ap, arith}
use Rattle.std.specs.Prelude.{IfSome}
use Rattle.std.specs.List.{list_any, position_or_len}
use Rattle.std.specs.Io.KnownBytes.{Consumes, IsAtEnd}
use Rattle.std.proofs.lemmas.List.{append-nil}
use Rattle.std.proofs.lemmas.List.Folds.{list_any-append}
use Rattle.std.proofs.lemmas.Bool.{ne_eqb, or_parts, or_from}
use Rattle.hsp_text.proofs.Cuts.{cut_parts}
use Rattle.hsp_text.specs.Input.{is_lf, first_line_of}

-- at the end all was taken
consumes_all : (a b c : Option (List ℕ)) (xs : List ℕ) → Consumes a b xs → Consumes b c [] → IsAtEnd c
    → IfSome a (λ text. xs ≡ text)
consumes_all None b c xs f g e = tt
consumes_all (Some x) None c xs f g e = absurd f
consumes_all (Some x) (Some y) None xs f g e = absurd g
consumes_all (Some x) (Some y) (Some z) xs f g e = sym (f ∙ ap (λ (t : List ℕ). xs ++ t) (g ∙ e) ∙ append-nil xs)

-- a line stays unbroken by an octet that is no LF
pub unbroken_more : (xs : List ℕ) (o : ℕ) → list_any is_lf xs ≡ false → o ≢ 10 → list_any is_lf (xs ++ o ∷ []) ≡ false
unbroken_more xs o u n =
    rw (list_any-append is_lf xs (o ∷ []))
    (or_from (list_any is_lf xs) (list_any is_lf (o ∷ [])) u (or_from (is_lf o) false (ne_eqb o 10 n) refl))

-- a text without LF is its first line
whole_line : (xs : List ℕ) → list_any is_lf xs ≡ false → first_line_of xs ≡ xs
whole_line [] u = refl
whole_line (x ∷ xs) u =
    let parts = or_parts (is_lf x) (list_any is_lf xs) u in
    let at : position_or_len is_lf (x ∷ xs) ≡ suc (position_or_len is_lf xs) = rw parts.0 (omega arith) in
    rw at (ap (λ (t : List ℕ). x ∷ t) (whole_line xs parts.1))

-- the line ends with the text
pub line_ends : (a b c : Option (List ℕ)) (xs : List ℕ) → list_any is_lf xs ≡ false → Consumes a b xs → Consumes b c []
    → IsAtEnd c → IfSome a (λ text. xs ≡ first_line_of text)
line_ends None b c xs u f g e = tt
line_ends (Some x) b c xs u f g e =
    let all : xs ≡ x = consumes_all (Some x) b c xs f g e in rw (← all) (sym (whole_line xs u))

-- the line ends at an LF
pub line_feeds : (a b c : Option (List ℕ)) (xs : List ℕ) (o : ℕ) → list_any is_lf xs ≡ false → o ≡ 10 → Consumes a b xs
    → Consumes b c (o ∷ []) → IfSome a (λ text. xs ≡ first_line_of text)
line_feeds None b c xs o u n f g = tt
line_feeds (Some x) None c xs o u n f g = absurd f
line_feeds (Some x) (Some y) None xs o u n f g = absurd g
line_feeds (Some x) (Some y) (Some z) xs o u n f g =
    let whole : x ≡ xs ++ 10 ∷ z = f ∙ ap (λ (t : List ℕ). xs ++ t) (g ∙ ap (λ v. v ∷ z) n) in
    rw whole (sym (cut_parts is_lf xs 10 z u refl).0)

-- one octet of one
pub one_octet : (n : ℕ) (xs : List ℕ) → length xs ≡ 1 → n ≢ 0 → n ≤ length xs → take n xs ≡ get_or xs 0 0 ∷ []
one_octet n [] e z h = cc
one_octet n (x ∷ []) e z h = let one : n ≡ 1 = omega arith in rw one refl
one_octet n (x ∷ y ∷ xs) e z h = absurd (omega arith)
