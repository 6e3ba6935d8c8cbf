-- Sums that are kept up to a greatest one.
use Rattle.std.specs.Prelude.{ℕ, ◌-◌, ◌^◌, min}

-- a sum as it is kept: at most 2^64 - 1
abbrev pub capped : ℕ → ℕ
capped n = min n (2 ^ 64 - 1)
