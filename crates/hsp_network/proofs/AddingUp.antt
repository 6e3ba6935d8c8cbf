-- Sums over numbers, and what a change of one arc's flow does to them.
use Rattle.std.proofs.Common.{◌≡◌, ◌≢◌, ℕ, zero, suc, ◌+◌, ◌-◌, ◌*◌, ◌<◌, ◌≤◌, ◌==◌, inl, inr, true, false, List}
use Rattle.std.proofs.Common.{length, slice_index, set, if◌then◌else◌, refl, ap, arith, eq-eqb, ne_eqb, length-set}
use Rattle.std.proofs.Common.{get_or-set_same, get_or-set_other}
use Rattle.std.proofs.lemmas.Bool.{cases_eq}
use Rattle.hsp_transport.proofs.Summing.{sum_below_add, sum_below_one}
pub use Rattle.hsp_transport.proofs.Summing.{sum_below_same, sum_below_le}
use Rattle.hsp_network.specs.Sums.{sum_below, only}
use Rattle.hsp_network.specs.Through.{through}

-- sums that differ in one term
pub sum_below_change : (n : ℕ) (f g : ℕ → ℕ) (i : ℕ) → i < n → ((k : ℕ) → k < n → k ≢ i → f k ≡ g k)
    → sum_below n f + g i ≡ sum_below n g + f i
sum_below_change zero f g i l h = absurd (omega arith)
sum_below_change (suc n) f g i l h = elim (cases_eq n i) [
  | inl e ↦
      let a : sum_below n f ≡ sum_below n g = sum_below_same n f g (λ k m. h k (omega arith) (λ q. omega arith)) in
      let b : f n ≡ f i = ap f e in
      let c : g n ≡ g i = ap g e in
      omega arith
  | inr ne ↦
      let a : sum_below n f + g i ≡ sum_below n g + f i =
      sum_below_change n f g i (omega arith) (λ k m. h k (omega arith)) in
      let b : f n ≡ g n = h n (omega arith) ne in
      omega arith
]

-- a term is within the sum
pub term_within : (n : ℕ) (f : ℕ → ℕ) (i : ℕ) → i < n → f i ≤ sum_below n f
term_within zero f i l = absurd (omega arith)
term_within (suc n) f i l = elim (cases_eq n i) [
  | inl e ↦ let b : f n ≡ f i = ap f e in omega arith
  | inr ne ↦ let a : f i ≤ sum_below n f = term_within n f i (omega arith) in omega arith
]

module _ (ends flows : List ℕ) (e y v : ℕ) (l : e < length flows) where
  -- a sum over arcs changes by what one arc's flow changes
  pub through_set : through ends (set flows e y) v + only (slice_index ends e) v (slice_index flows e)
      ≡ through ends flows v + only (slice_index ends e) v y
  unfolding through
  through_set =
      let f : ℕ → ℕ = λ k. if slice_index ends k == v then slice_index (set flows e y) k else 0 in
      let g : ℕ → ℕ = λ k. if slice_index ends k == v then slice_index flows k else 0 in
      let change : sum_below (length flows) f + g e ≡ sum_below (length flows) g + f e =
      sum_below_change (length flows) f g e l
      (λ k m ne. ap (λ n. if slice_index ends k == v then n else 0) (get_or-set_other flows e k y 0 ne)) in
      let many : sum_below (length (set flows e y)) f ≡ sum_below (length flows) f =
      ap (λ n. sum_below n f) (length-set flows e y) in
      let here : f e ≡ only (slice_index ends e) v y =
      ap (λ n. if slice_index ends e == v then n else 0) (get_or-set_same flows e y 0 l) in
      omega arith

-- an amount in two parts counts in two parts
pub only_split : (w v m n : ℕ) → only w v (m + n) ≡ only w v m + only w v n
only_split w v m n =
    elim (w == v) as (λ t. (if t then m + n else 0) ≡ (if t then m else 0) + (if t then n else 0))
    [ true ↦ refl | false ↦ refl ]

-- an amount counts at its own node
pub only_here : (w v n : ℕ) → w ≡ v → only w v n ≡ n
only_here w v n e = rw (eq-eqb w v e)

-- an amount does not count at another node
pub only_there : (w v n : ℕ) → w ≢ v → only w v n ≡ 0
only_there w v n ne = rw (ne_eqb w v ne)

-- no amount counts nowhere
pub only_zero : (w v : ℕ) → only w v 0 ≡ 0
only_zero w v = elim (cases_eq w v) [ inl e ↦ only_here w v 0 e | inr ne ↦ only_there w v 0 ne ]

module _ (ends flows : List ℕ) (e y v : ℕ) (l : e < length flows) where
  -- more flow on an arc is more through its end
  pub through_more : through ends (set flows e (slice_index flows e + y)) v
      ≡ through ends flows v + only (slice_index ends e) v y
  through_more =
      omega (
        arith,
        through_set ends flows e (slice_index flows e + y) v l,
        only_split (slice_index ends e) v (slice_index flows e) y,
      )

  -- less flow on an arc is less through its end
  pub through_less : y ≤ slice_index flows e
      → through ends (set flows e (slice_index flows e - y)) v + only (slice_index ends e) v y ≡ through ends flows v
  through_less m =
      let q : slice_index flows e - y + y ≡ slice_index flows e = omega arith in
      let split = only_split (slice_index ends e) v (slice_index flows e - y) y in
      let whole : only (slice_index ends e) v (slice_index flows e - y + y)
      ≡ only (slice_index ends e) v (slice_index flows e) = ap (only (slice_index ends e) v) q in
      omega (arith, through_set ends flows e (slice_index flows e - y) v l)

-- one term is larger by one at least
pub sum_below_lt : (n : ℕ) (f g : ℕ → ℕ) (i : ℕ) → i < n → f i < g i → ((k : ℕ) → k < n → f k ≤ g k)
    → sum_below n f < sum_below n g
sum_below_lt n f g i l more h =
    let bit : sum_below n (λ k. only k i 1) ≡ only i i 1 =
    sum_below_one n (λ k. only k i 1) i l (λ k m ne. only_there k i 1 ne) in
    let each : sum_below n (λ k. f k + only k i 1) ≤ sum_below n g = sum_below_le n _ g (λ k m. elim (cases_eq k i) [
      | inl e ↦ rw e (omega (arith, only_here i i 1 refl))
      | inr ne ↦ omega (arith, only_there k i 1 ne, h k m)
    ]) in
    omega (arith, sum_below_add n f (λ k. only k i 1), only_here i i 1 refl)

-- a sum of terms that are no more than `greatest_cost`
pub sum_below_low : (n : ℕ) (f : ℕ → ℕ) (greatest_cost : ℕ) → ((k : ℕ) → k < n → f k ≤ greatest_cost)
    → sum_below n f ≤ n * greatest_cost
sum_below_low zero f greatest_cost low = omega arith
sum_below_low (suc n) f greatest_cost low =
    omega (arith, sum_below_low n f greatest_cost (λ k l. low k (omega arith)), low n (omega arith))
