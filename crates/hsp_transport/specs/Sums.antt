-- Sums and tests over the numbers below a bound.
use Rattle.std.specs.Prelude.{ℕ, zero, suc, ◌+◌, ◌*◌, ◌==◌, ◌||◌, Bool, false, List, length, slice_index, if◌then◌else◌}

-- f 0 + f 1 + .. + f (n - 1)
abbrev pub sum_below : ℕ → (ℕ → ℕ) → ℕ
sum_below zero f = 0
sum_below (suc n) f = sum_below n f + f n

-- the products of two lists' numbers, place by place, added up
abbrev pub times : List ℕ → List ℕ → ℕ
times xs ys = sum_below (length xs) (λ k. slice_index xs k * slice_index ys k)

-- n where the two numbers are one, and 0 otherwise
abbrev pub only : ℕ → ℕ → ℕ → ℕ
only w v n = if w == v then n else 0

-- whether some number below n passes the test
abbrev pub any_below : ℕ → (ℕ → Bool) → Bool
any_below zero test = false
any_below (suc n) test = any_below n test || test n
