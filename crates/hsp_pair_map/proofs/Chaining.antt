-- The last places of buckets.
use Rattle.std.proofs.Common.{◌≡◌, ◌≢◌, ◌≤◌, ◌<◌, ℕ, zero, suc, inl, inr, refl, arith}
use Rattle.std.proofs.lemmas.Bool.{cases_eq, eq-eqb, ne_eqb}
use Rattle.hsp_pair_map.specs.Chains.{count_of, last_of}

-- the number is at most the number of places
pub last_within : (h : ℕ → ℕ) (b n : ℕ) → last_of h b n ≤ n
unfolding last_of
last_within h b zero = omega arith
last_within h b (suc n) = elim (cases_eq (h n) b) [
  | inl own ↦ rw (eq-eqb (h n) b own) (omega arith)
  | inr other ↦ rw (ne_eqb (h n) b other) (omega (arith, last_within h b n))
]

-- the place before the number belongs to the bucket
pub last_own : (h : ℕ → ℕ) (b n r : ℕ) → last_of h b n ≡ suc r → h r ≡ b
unfolding last_of
last_own h b zero r e = absurd (omega (arith, e))
last_own h b (suc n) r e = elim (cases_eq (h n) b) [
  | inl own ↦
      let there : suc n ≡ suc r = rw (eq-eqb (h n) b own) at e in
      let same : n ≡ r = omega (arith, there) in
      rw same at own
  | inr other ↦ last_own h b n r (rw (ne_eqb (h n) b other) at e)
]

-- the places from the number on belong to other buckets
pub last_others : (h : ℕ → ℕ) (b n k : ℕ) → last_of h b n ≤ k → k < n → h k ≢ b
unfolding last_of
last_others h b zero k l m = absurd (omega (arith, m))
last_others h b (suc n) k l m = elim (cases_eq (h n) b) [
  | inl own ↦
      let there : suc n ≤ k = rw (eq-eqb (h n) b own) at l in
      absurd (omega (arith, there, m))
  | inr other ↦
      let before : last_of h b n ≤ k = rw (ne_eqb (h n) b other) at l in
      elim (cases_eq k n) [
        | inl same ↦ rw same other
        | inr apart ↦ last_others h b n k before (omega (arith, m, apart))
      ]
]

-- only the buckets of the places count
pub last_alike : (g h : ℕ → ℕ) (b n : ℕ) → ((k : ℕ) → k < n → g k ≡ h k) → last_of g b n ≡ last_of h b n
unfolding last_of
last_alike g h b zero same = refl
last_alike g h b (suc n) same =
    rw (same n (omega arith), last_alike g h b n (λ k l. same k (omega (arith, l)))) refl

-- buckets that are alike have as many places
pub count_alike : (g h : ℕ → ℕ) (b n : ℕ) → ((k : ℕ) → k < n → g k ≡ h k) → count_of g b n ≡ count_of h b n
unfolding count_of
count_alike g h b zero same = refl
count_alike g h b (suc n) same =
    rw (same n (omega arith), count_alike g h b n (λ k l. same k (omega (arith, l)))) refl

-- a bucket without a last place has none
pub count_none : (h : ℕ → ℕ) (b n : ℕ) → last_of h b n ≡ 0 → count_of h b n ≡ 0
unfolding last_of count_of
count_none h b zero e = refl
count_none h b (suc n) e = elim (cases_eq (h n) b) [
  | inl own ↦ absurd (omega (arith, (rw (eq-eqb (h n) b own) at e)))
  | inr other ↦ rw (ne_eqb (h n) b other) (count_none h b n (rw (ne_eqb (h n) b other) at e))
]

-- a bucket has one place more than stand before its last one
pub count_last : (h : ℕ → ℕ) (b n r : ℕ) → last_of h b n ≡ suc r → count_of h b n ≡ suc (count_of h b r)
unfolding last_of count_of
count_last h b zero r e = absurd (omega (arith, e))
count_last h b (suc n) r e = elim (cases_eq (h n) b) [
  | inl own ↦
      let there : suc n ≡ suc r = rw (eq-eqb (h n) b own) at e in
      let same : n ≡ r = omega (arith, there) in
      rw (eq-eqb (h n) b own, same) refl
  | inr other ↦ rw (ne_eqb (h n) b other) (count_last h b n r (rw (ne_eqb (h n) b other) at e))
]
