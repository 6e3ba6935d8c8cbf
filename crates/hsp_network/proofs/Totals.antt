-- Sums in parts, and sums of sums.
use Rattle.std.proofs.Common.{◌≡◌, ◌≢◌, ℕ, zero, suc, ◌+◌, ◌<◌, ◌==◌, inl, inr, Bool, true, false, List, length}
use Rattle.std.proofs.Common.{slice_index, Option, Some, None, is_none, if◌then◌else◌, refl, ap, ap₂, sym, ◌∙◌, arith}
use Rattle.std.proofs.lemmas.Bool.{cases_Bool, cases_eq, or_cases}
use Rattle.hsp_network.specs.Sums.{any_below, only, sum_below}
use Rattle.hsp_network.specs.Through.{through}
use Rattle.hsp_network.proofs.AddingUp.{only_here, only_split, only_there, only_zero, sum_below_same}
pub use Rattle.hsp_transport.proofs.Summing.{sum_below_zero, sum_below_one, sum_below_add}

-- a sum over numbers goes in two parts
pub sum_split : (a n : ℕ) (f : ℕ → ℕ) → sum_below (a + n) f ≡ sum_below a f + sum_below n (λ k. f (a + k))
sum_split a zero f =
    let e : a + 0 ≡ a = omega arith in
    let s : sum_below (a + 0) f ≡ sum_below a f = ap (λ m. sum_below m f) e in
    omega arith
sum_split a (suc n) f =
    let e : a + suc n ≡ suc (a + n) = omega arith in
    let s : sum_below (a + suc n) f ≡ sum_below (suc (a + n)) f = ap (λ m. sum_below m f) e in
    let b = sum_split a n f in
    omega arith

-- what is summed by a key, summed again by a key of the key
pub by_keys : (outer key f : ℕ → ℕ) (n m g : ℕ) → ((k : ℕ) → k < m → key k < n) →
    sum_below n (λ v. only (outer v) g (sum_below m (λ k. only (key k) v (f k))))
    ≡ sum_below m (λ k. only (outer (key k)) g (f k))
by_keys outer key f n zero g inside = sum_below_zero n (λ v. only (outer v) g 0) (λ v l. only_zero (outer v) g)
by_keys outer key f n (suc m) g inside =
    let rest = by_keys outer key f n m g (λ k l. inside k (omega arith)) in
    let last : sum_below n (λ v. only (outer v) g (only (key m) v (f m)))
    ≡ only (outer (key m)) g (only (key m) (key m) (f m)) =
    sum_below_one n (λ v. only (outer v) g (only (key m) v (f m))) (key m) (inside m (omega arith))
    (λ v l ne. ap (only (outer v) g) (only_there (key m) v (f m) (λ e. ne (sym e))) ∙ only_zero (outer v) g) in
    sum_below_same n _ _
    (λ v l. only_split (outer v) g (sum_below m (λ k. only (key k) v (f k))) (only (key m) v (f m)))
    ∙ sum_below_add n (λ v. only (outer v) g (sum_below m (λ k. only (key k) v (f k))))
    (λ v. only (outer v) g (only (key m) v (f m)))
    ∙ ap₂ (λ a b. a + b) rest (last ∙ ap (only (outer (key m)) g) (only_here (key m) (key m) (f m) refl))

-- each term counts at its key
pub by_key : (key f : ℕ → ℕ) (n m : ℕ) → ((k : ℕ) → k < m → key k < n)
    → sum_below m f ≡ sum_below n (λ v. sum_below m (λ k. only (key k) v (f k)))
by_key key f n m h = sym (by_keys (λ v. 0) key f n m 0 h)

-- of what is summed by a key, the part of the keys in a set
pub only_when : (n : ℕ) (key f : ℕ → ℕ) (set : ℕ → Bool) (v : ℕ) →
    sum_below n (λ k. only (key k) v (if set (key k) then f k else 0))
    ≡ (if set v then sum_below n (λ k. only (key k) v (f k)) else 0)
only_when n key f set v = elim (cases_Bool (set v)) [
  | inl inside ↦ rw inside (sum_below_same n _ _ (λ k l. elim (cases_eq (key k) v) [
    | inl e ↦ let in-set : set (key k) ≡ true = rw e inside in ap (only (key k) v) (rw in-set refl)
    | inr ne ↦ only_there (key k) v (if set (key k) then f k else 0) ne ∙ sym (only_there (key k) v (f k) ne)
  ]))
  | inr outside ↦ rw outside (sum_below_zero n _ (λ k l. elim (cases_eq (key k) v) [
    | inl e ↦ let out : set (key k) ≡ false = rw e outside in ap (only (key k) v) (rw out refl) ∙ only_zero (key k) v
    | inr ne ↦ only_there (key k) v (if set (key k) then f k else 0) ne
  ]))
]

-- what goes through a node is a sum over the numbers of arcs
pub through_is : (ends flows : List ℕ) (v : ℕ)
    → through ends flows v ≡ sum_below (length flows) (λ k. only (slice_index ends k) v (slice_index flows k))
unfolding through
through_is ends flows v = refl

-- moving both numbers by as much changes nothing
pub only_shift : (c a b x : ℕ) → only (c + a) (c + b) x ≡ only a b x
only_shift c a b x = elim (cases_eq a b) [
  | inl e ↦ only_here (c + a) (c + b) x (ap (λ n. c + n) e) ∙ sym (only_here a b x e)
  | inr ne ↦ only_there (c + a) (c + b) x (λ q. ne (omega arith)) ∙ sym (only_there a b x ne)
]

-- a test that holds somewhere
pub any_at : (n : ℕ) (test : ℕ → Bool) → any_below n test ≡ true → (k : ℕ) × (k < n) × (test k ≡ true)
any_at zero test h = absurd cc
any_at (suc n) test h = elim (or_cases (any_below n test) (test n) h) [
  | inl before ↦ let w = any_at n test before in (w.0, omega (arith, w.1), w.2)
  | inr here ↦ (n, omega arith, here)
]

-- no arc, or one, has that end
pub none_ends : (n : ℕ) (end f : ℕ → ℕ) (v : ℕ) → ((k : ℕ) → k < n → end k ≢ v)
    → sum_below n (λ k. only (end k) v (f k)) ≡ 0
none_ends n end f v h = sum_below_zero n (λ k. only (end k) v (f k)) (λ k l. only_there (end k) v (f k) (h k l))

-- where one arc only ends at a node, its flow is all that comes there
pub one_ends : (n : ℕ) (end f : ℕ → ℕ) (v i : ℕ) → i < n → end i ≡ v → ((k : ℕ) → k < n → k ≢ i → end k ≢ v)
    → sum_below n (λ k. only (end k) v (f k)) ≡ f i
one_ends n end f v i l e h =
    sum_below_one n (λ k. only (end k) v (f k)) i l (λ k m ne. only_there (end k) v (f k) (h k m ne))
    ∙ only_here (end i) v (f i) e
