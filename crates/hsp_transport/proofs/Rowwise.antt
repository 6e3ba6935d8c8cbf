-- Sums over arcs, row by row, and sums over rows, kind by kind.
use Rattle.std.proofs.Common.{◌≡◌, ℕ, zero, suc, ◌+◌, ◌*◌, ◌<◌, ◌==◌, ◌&&◌, Bool, true, false, List, [], ◌∷◌, sum_by}
use Rattle.std.proofs.Common.{All, if◌then◌else◌, refl, ap, ap₂, sym, ◌∙◌, arith, mul-zero, mul-add, eq-eqb, ne_eqb}
use Rattle.std.specs.List.{list_any}
use Rattle.std.proofs.lemmas.List.Sums.{sum_by-cons}
use Rattle.std.proofs.lemmas.List.Elements.{All-head, All-tail}
use Rattle.hsp_transport.specs.Sums.{sum_below}
use Rattle.hsp_transport.proofs.Summing.{sum_below_same, sum_below_zero, sum_below_add, sum_below_one, sum_by_same_all}
use Rattle.hsp_transport.specs.Network.{Network}
use Rattle.hsp_transport.specs.Kinds.{Link, link_of, links_in}

-- a number where a test holds
abbrev pub when : Bool → ℕ → ℕ
when t v = if t then v else 0

-- a term that is asked for counts
pub when_here : (i : ℕ) (v : ℕ) → when (i == i) v ≡ v
when_here i v = rw (eq-eqb i i refl)

-- a term that is not asked for is zero
pub when_there : (i k v : ℕ) → (i ≡ k → ⊥) → when (i == k) v ≡ 0
when_there i k v ne = rw (ne_eqb i k ne)

-- zero stays zero under a condition
pub when_zero : (t : Bool) → when t 0 ≡ 0
when_zero t = grind arith

-- a condition on numbers that are equal where it holds
pub when_same : (t : Bool) (v w : ℕ) → (t ≡ true → v ≡ w) → when t v ≡ when t w
when_same true v w same = same refl
when_same false v w same = refl

-- a condition on a sum is one on each term
pub when_add : (t : Bool) (v w : ℕ) → when t (v + w) ≡ when t v + when t w
when_add true v w = refl
when_add false v w = refl

-- two conditions may be asked in either order
pub when_turned : (s t : Bool) (v : ℕ) → when s (when t v) ≡ when t (when s v)
when_turned s t v = grind arith

-- a condition on each term is one on the sum
pub sum_below_when : (t : Bool) (n : ℕ) (f : ℕ → ℕ) → sum_below n (λ i. when t (f i)) ≡ when t (sum_below n f)
sum_below_when true n f = refl
sum_below_when false n f = sum_below_zero n (λ i. 0) (λ i l. refl)

-- only one of many terms
one_term : (n i : ℕ) (f : ℕ → ℕ) → i < n → sum_below n (λ k. when (i == k) (f k)) ≡ f i
one_term n i f l =
    sum_below_one n (λ k. when (i == k) (f k)) i l (λ k m ne. when_there i k (f k) (λ q. ne (sym q)))
    ∙ when_here i (f i)

module _ {A : Type 0} (site : A → ℕ) (n : Network A) where
  -- a sum over links, one arc more
  more_links : (a : A) (rest : List A) (i : ℕ) (g : Link → ℕ) →
      sum_by g (links_in site n (a ∷ rest) i)
      ≡ when (n.source a == i) (g (link_of site n a)) + sum_by g (links_in site n rest i)
  more_links a rest i g = grind (arith, sum_by-cons g (link_of site n a) (links_in site n rest i))

  -- a sum over all arcs is the sum over the sources of the sums over their links
  pub by_rows : (rows : ℕ) (arcs : List A) → All (λ a. n.source a < rows) arcs → (g : ℕ → Link → ℕ) →
      sum_by (λ a. g (n.source a) (link_of site n a)) arcs ≡ sum_below rows (λ i. sum_by (g i) (links_in site n arcs i))
  by_rows rows [] inside g = sym (sum_below_zero rows (λ i. 0) (λ i l. refl))
  by_rows rows (a ∷ rest) inside g =
      let own =
      one_term rows (n.source a) (λ i. g i (link_of site n a)) (All-head (λ b. n.source b < rows) a rest inside) in
      sum_by-cons (λ b. g (n.source b) (link_of site n b)) a rest
      ∙ ap₂ (λ v w. v + w) (sym own) (by_rows rows rest (All-tail (λ b. n.source b < rows) a rest inside) g)
      ∙ sym
      (sum_below_add rows (λ i. when (n.source a == i) (g i (link_of site n a)))
      (λ i. sum_by (g i) (links_in site n rest i)))
      ∙ sum_below_same rows _ _ (λ i m. sym (more_links a rest i (g i)))

  -- the same of one source
  pub by_row : (arcs : List A) (i : ℕ) (g : ℕ → Link → ℕ) →
      sum_by (λ a. when (n.source a == i) (g (n.source a) (link_of site n a))) arcs
      ≡ sum_by (g i) (links_in site n arcs i)
  by_row [] i g = refl
  by_row (a ∷ rest) i g =
      let first = sum_by-cons (λ b. when (n.source b == i) (g (n.source b) (link_of site n b))) a rest in
      grind (arith, first, by_row rest i g, more_links a rest i (g i))

  -- whether a source may use a site, by its links
  pub allowed_by : (arcs : List A) (i s : ℕ) →
      list_any (λ a. n.source a == i && site a == s) arcs ≡ list_any (λ a. a.site == s) (links_in site n arcs i)
  allowed_by [] i s = refl
  allowed_by (a ∷ rest) i s = grind (arith, allowed_by rest i s)

-- a sum over rows is the sum over the kinds of the sums over their rows
pub by_kinds : (kinds : ℕ) (kind : ℕ → ℕ) (h : ℕ → ℕ → ℕ) (rows : ℕ) → ((i : ℕ) → i < rows → kind i < kinds) →
    sum_below rows (λ i. h (kind i) i) ≡ sum_below kinds (λ k. sum_below rows (λ i. when (kind i == k) (h k i)))
by_kinds kinds kind h zero inside = sym (sum_below_zero kinds (λ k. 0) (λ k l. refl))
by_kinds kinds kind h (suc rows) inside =
    ap₂ (λ v w. v + w) (by_kinds kinds kind h rows (λ i l. inside i (omega arith)))
    (sym (one_term kinds (kind rows) (λ k. h k rows) (inside rows (omega arith))))
    ∙ sym
    (sum_below_add kinds (λ k. sum_below rows (λ i. when (kind i == k) (h k i)))
    (λ k. when (kind rows == k) (h k rows)))

-- the two orders of adding up
pub turned : {A : Type 0} (f : ℕ → A → ℕ) (xs : List A) (rows : ℕ)
    → sum_by (λ a. sum_below rows (λ i. f i a)) xs ≡ sum_below rows (λ i. sum_by (f i) xs)
turned f [] rows = sym (sum_below_zero rows (λ i. 0) (λ i l. refl))
turned f (x ∷ xs) rows =
    sum_by-cons (λ a. sum_below rows (λ i. f i a)) x xs
    ∙ ap (λ v. sum_below rows (λ i. f i x) + v) (turned f xs rows)
    ∙ sym (sum_below_add rows (λ i. f i x) (λ i. sum_by (f i) xs))
    ∙ sum_below_same rows _ _ (λ i l. sym (sum_by-cons (f i) x xs))

-- a sum of nothing but zeros is zero
pub sum_by_none : {A : Type 0} (xs : List A) → sum_by (λ (a : A). 0) xs ≡ 0
sum_by_none [] = refl
sum_by_none (x ∷ xs) = omega (arith, sum_by-cons (λ a. 0) x xs, sum_by_none xs)

-- a condition on each term of a list is one on their sum
pub sum_by_when : {A : Type 0} (t : Bool) (f : A → ℕ) (xs : List A)
    → sum_by (λ a. when t (f a)) xs ≡ when t (sum_by f xs)
sum_by_when true f xs = refl
sum_by_when false f xs = sum_by_none xs

-- a factor of a sum is a factor of each term
pub sum_below_times : (n c : ℕ) (f : ℕ → ℕ) → c * sum_below n f ≡ sum_below n (λ i. c * f i)
sum_below_times zero c f = mul-zero c
sum_below_times (suc n) c f = mul-add c (sum_below n f) (f n) ∙ ap (λ v. v + c * f n) (sum_below_times n c f)

-- a factor may stand inside a condition
pub times_when : (c v : ℕ) (t : Bool) → c * when t v ≡ when t (c * v)
times_when c v t = grind (arith, mul-zero c)

-- sums of equal terms of each element
pub same_by : {A : Type 0} (f g : A → ℕ) (xs : List A) → ((a : A) → f a ≡ g a) → sum_by f xs ≡ sum_by g xs
same_by f g xs each = sum_by_same_all f g xs (λ k d l. each _)
