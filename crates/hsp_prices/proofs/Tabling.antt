-- Pairs of texts.
use Rattle.std.proofs.Common.{◌≡◌, ℕ, ◌&&◌, true, List}
use Rattle.std.specs.Prelude.{◌↔◌}
use Rattle.std.specs.Str.{bytes_eq}
use Rattle.std.proofs.lemmas.Slice.Eq.{bytes_eq-Decides}
use Rattle.std.proofs.lemmas.Bool.{and_parts, and_from}

-- two pairs of texts equal one another just where both are the same
pub both_equal : (a b c d : List ℕ) → ((bytes_eq a b && bytes_eq c d) ≡ true) ↔ ((a ≡ b) × (c ≡ d))
both_equal a b c d = (
  (λ e.
      let parts = and_parts (bytes_eq a b) (bytes_eq c d) e in
      ((bytes_eq-Decides a b).0 parts.0, (bytes_eq-Decides c d).0 parts.1)),
  (λ e. and_from (bytes_eq a b) (bytes_eq c d) ((bytes_eq-Decides a b).1 e.0) ((bytes_eq-Decides c d).1 e.1)),
)
