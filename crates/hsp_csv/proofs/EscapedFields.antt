-- Octets of a field that are written one after the other.
use Rattle.std.proofs.Common.{◌≡◌, ◌∙◌, ℕ, List, [], ◌∷◌, ◌++◌, ap, sym, append_assoc, append-nil, arith}
use Rattle.csv.specs.Writing.{default_writer, escaped}

-- quotes are doubled octet by octet: the first octet's text stands before that of the others
escaped_then : (c : ℕ) (rest : List ℕ)
    → escaped default_writer (c ∷ rest) ≡ escaped default_writer (c ∷ []) ++ escaped default_writer rest
unfolding escaped
escaped_then c rest = grind arith

-- the loop goes on: what is written and what is left spell the whole field after one octet more, too
pub one_escaped : (out new left : List ℕ) (c : ℕ) (rest whole : List ℕ) → left ≡ c ∷ rest
    → new ≡ out ++ escaped default_writer (c ∷ []) → out ++ escaped default_writer left ≡ whole
    → new ++ escaped default_writer rest ≡ whole
one_escaped out new left c rest whole next is all =
    ap (λ o. o ++ escaped default_writer rest) is
    ∙ append_assoc out (escaped default_writer (c ∷ [])) (escaped default_writer rest)
    ∙ ap (λ e. out ++ e) (sym (escaped_then c rest) ∙ ap (escaped default_writer) (sym next)) ∙ all

-- the loop ends: with nothing left, what is written is the whole
pub all_escaped : (out left whole : List ℕ) → left ≡ [] → out ++ escaped default_writer left ≡ whole → out ≡ whole
unfolding escaped
all_escaped out left whole none all =
    sym (append-nil out) ∙ ap (λ l. out ++ escaped default_writer l) (sym none) ∙ all
