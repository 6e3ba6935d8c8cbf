-- The share of a front in a number.
use Rattle.std.specs.Prelude.{◌+◌, ◌/◌, ◌%◌, nat_lt, ℕ, if◌then◌else◌}

-- the share of a front in a number: all fronts have the quotient, and the first ones have one of the remainder each
abbrev pub share : ℕ → ℕ → ℕ → ℕ
share fronts front number = number / fronts + (if nat_lt front (number % fronts) then 1 else 0)
