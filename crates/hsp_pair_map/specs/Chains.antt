-- Chains of places by the bucket that each belongs to.
use Rattle.std.specs.Prelude.{ℕ, zero, suc, ◌==◌, if◌then◌else◌}

-- the number behind the last of the first n places that belong to a bucket, or 0 where none does
unfoldable pub last_of : (ℕ → ℕ) → ℕ → ℕ → ℕ
last_of bucket at zero = 0
last_of bucket at (suc n) = if bucket n == at then suc n else last_of bucket at n

-- how many of the first n places belong to a bucket
unfoldable pub count_of : (ℕ → ℕ) → ℕ → ℕ → ℕ
count_of bucket at zero = 0
count_of bucket at (suc n) = if bucket n == at then suc (count_of bucket at n) else count_of bucket at n
