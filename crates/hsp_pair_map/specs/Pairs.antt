-- Pairs of names.
use Rattle.std.specs.Prelude.{ℕ, List}

-- two names, as octets
pub record Pair : Type 0 where
  pub first : List ℕ
  pub second : List ℕ
