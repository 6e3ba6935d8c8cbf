-- A text that is written in two pieces.
use Rattle.std.proofs.Common.{◌≡◌, ◌++◌, ℕ, List, append_assoc, refl}

-- two pieces behind a text
pub two_pieces : (out one two a b : List ℕ) → one ≡ out ++ a → two ≡ one ++ b → two ≡ out ++ (a ++ b)
two_pieces out one two a b p q = rw (q, p, append_assoc out a b) refl
