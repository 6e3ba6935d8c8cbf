-- Sums that a pass keeps up to a greatest one.
use Rattle.std.proofs.Common.{◌≡◌, ◌≤◌, ◌<◌, ◌+◌, ◌^◌, ◌∷◌, ℕ, List, arith, sum_by}
use Rattle.std.proofs.lemmas.List.Sums.{sum_by-cons}
use Rattle.hsp_price_check.specs.Passed.{capped}

-- a term of a sum is added before the rest of them
pub term_added : {A : Type 0} (f : A → ℕ) (x : A) (xs : List A) (sum term all : ℕ) → term ≡ f x
    → capped (sum + sum_by f (x ∷ xs)) ≡ capped all → capped (capped (sum + term) + sum_by f xs) ≡ capped all
term_added f x xs sum term all is so = omega (arith, is, so, sum_by-cons f x xs)

-- a term of 0 need not be added
pub term_skipped : {A : Type 0} (f : A → ℕ) (x : A) (xs : List A) (sum all : ℕ) → f x ≡ 0
    → capped (sum + sum_by f (x ∷ xs)) ≡ capped all → capped (sum + sum_by f xs) ≡ capped all
term_skipped f x xs sum all none so = omega (arith, none, so, sum_by-cons f x xs)

-- a sum that is kept goes on as the sum does
pub kept_more : (a b : ℕ) → capped (capped a + b) ≡ capped (a + b)
kept_more a b = omega arith

-- what is kept of a sum within a small bound is the sum
pub kept_within : (n m : ℕ) → m < 2 ^ 64 → n ≤ m → capped n ≡ n
kept_within n m small within = grind (arith, small, within)

-- and a sum that is kept within the bound is within it
pub within_kept : (n m : ℕ) → m < 2 ^ 64 → capped n ≤ m → n ≤ m
within_kept n m small within = grind (arith, small, within)
