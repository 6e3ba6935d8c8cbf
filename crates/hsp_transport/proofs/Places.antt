-- What holds of a list, by its places; and of the numbers below a bound, as a list.
use Rattle.std.proofs.Common.{◌≡◌, ℕ, zero, suc, ◌<◌, ◌≤◌, ◌∙◌, Bool, List, length, All, sum_by, slice_index_or, Option}
use Rattle.std.proofs.Common.{Some, None, inl, inr, refl, ap, ap₂, sym, subst, arith, add-one, zero-add, take, take_all}
use Rattle.std.specs.Prelude.{◌||◌}
use Rattle.std.specs.List.{list_any, range_with_len}
use Rattle.std.proofs.lemmas.List.Folds.{list_any_more}
use Rattle.std.proofs.lemmas.List.FromFn.{length-range_with_len, get_or-range_with_len}
use Rattle.std.proofs.lemmas.List.{get_or_past}
use Rattle.std.proofs.lemmas.Bool.{cases_lt}
use Rattle.hsp_transport.specs.Lists.{HostsAreBelow, host_in}
use Rattle.hsp_transport.specs.Sums.{any_below, sum_below}
use Rattle.hsp_transport.proofs.Summing.{by_place, sum_below_same}

-- tests that agree find the same
pub any_same : (n : ℕ) (f g : ℕ → Bool) → ((k : ℕ) → k < n → f k ≡ g k) → any_below n f ≡ any_below n g
any_same zero f g h = refl
any_same (suc n) f g h = ap₂ (λ a b. a || b) (any_same n f g (λ k l. h k (omega arith))) (h n (omega arith))

module _ {A : Type 0} (p : A → Bool) (d : A) (xs : List A) where
  -- whether one of the first elements passes is asked place by place
  any_along : (n : ℕ) → n ≤ length xs → list_any p (take n xs) ≡ any_below n (λ k. p (slice_index_or xs k d))
  any_along zero l = refl
  any_along (suc n) l =
      rw add-one at (list_any_more p xs n d (omega arith))
      ∙ ap (λ b. b || p (slice_index_or xs n d)) (any_along n (omega arith))

  -- a test of some element is a test of some place
  pub any_place : list_any p xs ≡ any_below (length xs) (λ k. p (slice_index_or xs k d))
  any_place = ap (list_any p) (sym (take_all (length xs) xs (omega arith))) ∙ any_along (length xs) (omega arith)

-- the number at a place of the numbers below a bound
at_place : (n k d : ℕ) → k < n → slice_index_or (range_with_len 0 n) k d ≡ k
at_place n k d l = get_or-range_with_len 0 n k d l ∙ zero-add k

-- a sum, a test and a statement of all numbers below a bound
pub sum_numbers : (f : ℕ → ℕ) (n : ℕ) → sum_by f (range_with_len 0 n) ≡ sum_below n f
sum_numbers f n =
    by_place f 0 (range_with_len 0 n)
    ∙ ap (λ m. sum_below m (λ k. f (slice_index_or (range_with_len 0 n) k 0))) (length-range_with_len 0 n)
    ∙ sum_below_same n _ _ (λ k l. ap f (at_place n k 0 l))

-- whether a number below a bound passes is whether one in the list of these numbers does
pub any_number : (p : ℕ → Bool) (n : ℕ) → list_any p (range_with_len 0 n) ≡ any_below n p
any_number p n =
    any_place p 0 (range_with_len 0 n)
    ∙ ap (λ m. any_below m (λ k. p (slice_index_or (range_with_len 0 n) k 0))) (length-range_with_len 0 n)
    ∙ any_same n _ _ (λ k l. ap p (at_place n k 0 l))

-- what holds of each number below a bound holds of all in the list of them
pub all_numbers : (P : ℕ → Type 0) (n : ℕ) → ((k : ℕ) → k < n → P k) → All P (range_with_len 0 n)
all_numbers P n each k d l =
    let below : k < n = omega (arith, length-range_with_len 0 n) in
    subst P (sym (at_place n k d below)) (each k below)

-- what holds of all numbers in the list holds of each below the bound
pub each_number : (P : ℕ → Type 0) (n : ℕ) → All P (range_with_len 0 n) → (k : ℕ) → k < n → P k
each_number P n all k l = subst P (at_place n k 0 l) (all k 0 (omega (arith, length-range_with_len 0 n)))

-- what holds of the hosts of the servers that are there holds of all
pub hosts_below : (bound : ℕ) (hosts : List (Option ℕ))
    → ((j h : ℕ) → j < length hosts → host_in hosts j ≡ Some h → h < bound) → HostsAreBelow bound hosts
hosts_below bound hosts each j h on = elim (cases_lt j (length hosts)) [
  | inl inside ↦ each j h inside on
  | inr past ↦ absurd (let both : None ≡ Some h = sym (get_or_past hosts j None past) ∙ on in cc)
]
