-- Sums with a factor, over what a list is mapped to, and in another order; lists of the first values of a function.
use Rattle.std.proofs.Common.{◌≡◌, ℕ, zero, suc, ◌+◌, ◌<◌, ◌∙◌, List, length, map}
use Rattle.std.proofs.Common.{slice_index, refl, ap, sym, zero-add}
use Rattle.std.specs.List.{range_with_len}
use Rattle.std.proofs.lemmas.List.FromFn.{get_or-map-range_with_len, length-map-range_with_len}
use Rattle.hsp_transport.specs.Sums.{sum_below}
use Rattle.hsp_transport.proofs.Summing.{sum_below_add, sum_below_zero}

-- the two orders of adding up
pub below_turned : (n m : ℕ) (f : ℕ → ℕ → ℕ)
    → sum_below n (λ a. sum_below m (f a)) ≡ sum_below m (λ b. sum_below n (λ a. f a b))
below_turned zero m f = sym (sum_below_zero m (λ b. 0) (λ b l. refl))
below_turned (suc n) m f =
    ap (λ v. v + sum_below m (f n)) (below_turned n m f)
    ∙ sym (sum_below_add m (λ b. sum_below n (λ a. f a b)) (f n))

-- the first values of a function
abbrev pub listed : ℕ → (ℕ → ℕ) → List ℕ
listed n f = map f (range_with_len 0 n)

-- are so many
pub listed_many : (n : ℕ) (f : ℕ → ℕ) → length (listed n f) ≡ n
listed_many n f = length-map-range_with_len f 0 n

-- each in its place
pub listed_at : (n : ℕ) (f : ℕ → ℕ) (k : ℕ) → k < n → slice_index (listed n f) k ≡ f k
listed_at n f k l = get_or-map-range_with_len f 0 n k k 0 l (zero-add k)
