-- A region and numbers.
use Rattle.std.specs.Prelude.{ℕ, List}

pub record KeyEntry : Type 0 where
  pub region : List ℕ
  pub places : List ℕ
