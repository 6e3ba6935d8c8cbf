-- What holds of lines.
use Rattle.std.proofs.Common.{◌≡◌, ◌≢◌, ℕ, ◌==◌, true, false, true≢false, List, [], ◌∷◌, ◌++◌, All, flat_map}
use Rattle.std.proofs.Common.{if◌then◌else◌, refl, ap, sym, ◌∙◌, append_assoc, append-nil, eqb-true, eq-eqb}
use Rattle.std.proofs.lemmas.List.Elements.{All-append, All-cons, All-nil}
use Rattle.hsp_talk.specs.Laws.{IsOneLine, LinesEndOnce, LinesMakeOctets}
use Rattle.hsp_talk.specs.Talk.{last_line, whole_lines}

abbrev with_ends : List (List ℕ) → List ℕ
with_ends lines = flat_map (λ line. line ++ 10 ∷ []) lines

-- what was begun and the octets after it are their lines, each with its end, and a last line
joined : (begun octets : List ℕ) → begun ++ octets ≡ with_ends (whole_lines begun octets) ++ last_line begun octets
joined begun [] = append-nil begun
joined begun (x ∷ xs) =
    elim (x == 10) as (λ b. (x == 10) ≡ b → begun ++ x ∷ xs
    ≡ with_ends (if b then begun ∷ whole_lines [] xs else whole_lines (begun ++ x ∷ []) xs)
    ++ (if b then last_line [] xs else last_line (begun ++ x ∷ []) xs)) [
      | true ↦ λ t.
          ap (λ c. begun ++ c ∷ xs) (eqb-true x 10 t) ∙ sym (append_assoc begun (10 ∷ []) xs)
          ∙ ap (λ r. (begun ++ 10 ∷ []) ++ r) (joined [] xs)
          ∙ sym (append_assoc (begun ++ 10 ∷ []) (with_ends (whole_lines [] xs)) (last_line [] xs))
      | false ↦ λ f. sym (append_assoc begun (x ∷ []) xs) ∙ joined (begun ++ x ∷ []) xs
    ] refl

-- the lines of a text, with their ends, make the text
pub octets_again : LinesMakeOctets
octets_again octets = joined [] octets

-- a line stays one line by an octet that is no line feed
one_more : (line : List ℕ) (x : ℕ) → IsOneLine line → (x == 10) ≡ false → IsOneLine (line ++ x ∷ [])
one_more line x so f =
    All-append (λ c. c ≢ 10) line (x ∷ []) so
    (All-cons (λ c. c ≢ 10) x [] (λ e. true≢false (sym (eq-eqb x 10 e) ∙ f)) (All-nil (λ c. c ≢ 10)))

-- each line that octets are cut into, the last too, has no line feed
apart : (begun octets : List ℕ) → IsOneLine begun
    → All IsOneLine (whole_lines begun octets) × IsOneLine (last_line begun octets)
apart begun [] so = (All-nil IsOneLine, so)
apart begun (x ∷ xs) so =
    elim (x == 10)
    as (λ b. (x == 10) ≡ b
    → All IsOneLine (if b then begun ∷ whole_lines [] xs else whole_lines (begun ++ x ∷ []) xs)
    × IsOneLine (if b then last_line [] xs else last_line (begun ++ x ∷ []) xs)) [
      | true ↦ λ t.
          let rest = apart [] xs (All-nil (λ c. c ≢ 10)) in
          (All-cons IsOneLine begun (whole_lines [] xs) so rest.0, rest.1)
      | false ↦ λ f. apart (begun ++ x ∷ []) xs (one_more begun x so f)
    ] refl

-- each line has one line feed, at its end
pub each_one_line : LinesEndOnce
each_one_line octets = apart [] octets (All-nil (λ c. c ≢ 10))
