-- Weak duality, and what a cut shows.
use Rattle.std.proofs.Common.{◌≡◌, ℕ, zero, suc, ◌+◌, ◌*◌, ◌<◌, ◌≤◌, ◌==◌, ◌&&◌, ◌⊎◌, inl, inr, Bool, true, false, cond}
use Rattle.std.proofs.Common.{List, length, sum_by, slice_index, slice_index_or, Option, Some, None, is_none, min}
use Rattle.std.proofs.Common.{if◌then◌else◌, All, refl, ap, ap₂, sym, ◌∙◌, arith, mul_comm, mul-add, add-mul}
use Rattle.std.proofs.Common.{mul-le-mul_left, mul-le-mul_right, mul-zero, zero-mul, one-mul, eq-eqb, ne_eqb}
use Rattle.std.proofs.lemmas.List.Folds.{list_any_at}
use Rattle.std.proofs.lemmas.Bool.{cases_lt, cases_Bool, and_from}
use Rattle.hsp_transport.specs.Cut.{reaches, demand_of, reached_capacity, capacity_of, IsShort}
use Rattle.hsp_transport.specs.Flow.{load, is_on, on_host, host_load, total_cost, IsFeasible}
use Rattle.hsp_transport.specs.Network.{Network, IsNetwork}
use Rattle.hsp_transport.specs.Prices.{at_host, price_at, HasPrices}
use Rattle.hsp_transport.specs.Sums.{sum_below, times}
use Rattle.hsp_transport.proofs.Summing.{sum_below_same, sum_below_le, sum_below_zero, sum_below_add, sum_below_one}
use Rattle.hsp_transport.proofs.Summing.{sum_by_same_all, sum_by_le_all, sum_by_add, by_key}

-- a weight of the hosts at one server
at_one : (o : Option ℕ) (m : ℕ) (w : ℕ → ℕ) (x : ℕ) → ((h : ℕ) → o ≡ Some h → h < m) →
    sum_below m (λ h. w h * (if is_on o h then x else 0)) ≡ at_host o w * x
at_one None m w x in' = sum_below_zero m (λ h. w h * 0) (λ h l. mul-zero (w h)) ∙ sym (zero-mul x)
at_one (Some k) m w x in' =
    let at : ℕ → ℕ = λ h. if k == h then x else 0 in
    let here : at k ≡ x = rw (eq-eqb k k refl) in
    sum_below_one m (λ h. w h * at h) k (in' k refl)
    (λ h l ne. let e : at h ≡ 0 = rw (ne_eqb k h (λ q. ne (sym q))) in ap (λ v. w h * v) e ∙ mul-zero (w h))
    ∙ ap (λ v. w k * v) here

-- a weight that depends only on the host: the sum over the servers is the sum over the hosts
by_host : (host_of : ℕ → Option ℕ) (w g : ℕ → ℕ) (n m : ℕ) → ((j h : ℕ) → j < n → host_of j ≡ Some h → h < m) →
    sum_below n (λ j. at_host (host_of j) w * g j)
    ≡ sum_below m (λ h. w h * sum_below n (λ j. if is_on (host_of j) h then g j else 0))
by_host host_of w g zero m in' = sym (sum_below_zero m (λ h. w h * 0) (λ h l. mul-zero (w h)))
by_host host_of w g (suc n) m in' =
    let rest : ℕ → ℕ = λ h. sum_below n (λ j. if is_on (host_of j) h then g j else 0) in
    let at : ℕ → ℕ = λ h. if is_on (host_of n) h then g n else 0 in
    let a : sum_below n (λ j. at_host (host_of j) w * g j) ≡ sum_below m (λ h. w h * rest h) =
    by_host host_of w g n m (λ j h l e. in' j h (omega arith) e) in
    let b : sum_below m (λ h. w h * at h) ≡ at_host (host_of n) w * g n =
    at_one (host_of n) m w (g n) (λ h e. in' n h (omega arith) e) in
    let split : sum_below m (λ h. w h * (rest h + at h)) ≡ sum_below m (λ h. w h * rest h + w h * at h) =
    sum_below_same m _ _ (λ h l. mul-add (w h) (rest h) (at h)) in
    let sums : sum_below m (λ h. w h * rest h + w h * at h)
    ≡ sum_below m (λ h. w h * rest h) + sum_below m (λ h. w h * at h) =
    sum_below_add m (λ h. w h * rest h) (λ h. w h * at h) in
    ap₂ (λ x y. x + y) a (sym b) ∙ sym sums ∙ sym split

-- numbers of all servers: of those on no host, and of those on each host
pub split_host : (host_of : ℕ → Option ℕ) (g : ℕ → ℕ) (n m : ℕ) → ((j h : ℕ) → j < n → host_of j ≡ Some h → h < m) →
    sum_below n g ≡ sum_below n (λ j. if is_none (host_of j) then g j else 0)
    + sum_below m (λ h. sum_below n (λ j. if is_on (host_of j) h then g j else 0))
split_host host_of g n m in' =
    sum_below_same n _ _ (λ j l. each (host_of j) (g j))
    ∙ sum_below_add n (λ j. if is_none (host_of j) then g j else 0) (λ j. at_host (host_of j) (λ _. 1) * g j)
    ∙ ap (λ s. sum_below n (λ j. if is_none (host_of j) then g j else 0) + s)
    (by_host host_of (λ _. 1) g n m in'
    ∙ sum_below_same m _ _ (λ h l. one-mul (sum_below n (λ j. if is_on (host_of j) h then g j else 0))))
  where
    each : (o : Option ℕ) (x : ℕ) → x ≡ (if is_none o then x else 0) + at_host o (λ _. 1) * x
    each None x = omega (arith, zero-mul x)
    each (Some h) x = omega (arith, one-mul x)

-- each product may be written the other way round
turned : (xs ys : List ℕ) → sum_below (length xs) (λ k. slice_index ys k * slice_index xs k) ≡ times xs ys
turned xs ys = sum_below_same (length xs) _ _ (λ k l. mul_comm (slice_index ys k) (slice_index xs k))

module _ {A : Type 0} (n : Network A) (is : IsNetwork n) where
  -- a weight of the sources adds up over the arcs to what it weighs the demands
  over_sources : (x : A → ℕ) → IsFeasible n x → (w : ℕ → ℕ)
      → sum_by (λ a. w (n.source a) * x a) n.arcs ≡ sum_below (length n.demands) (λ i. w i * slice_index n.demands i)
  over_sources x feasible w =
      by_key n.source x w (length n.demands) n.arcs is.sources
      ∙ sum_below_same (length n.demands) _ _ (λ i l. ap (λ v. w i * v) (feasible.met i l))

  -- the servers' and the hosts' prices over the arcs
  over_prices : (x : A → ℕ) (p q : List ℕ) → sum_by (λ a. price_at n p q (n.server a) * x a) n.arcs
      ≡ sum_below (length n.capacities) (λ j. slice_index p j * load n x j) + sum_below (length n.limits)
      (λ h. slice_index q h * host_load n x h)
  over_prices x p q =
      let w : ℕ → ℕ = λ h. slice_index q h in
      by_key n.server x (λ j. price_at n p q j) (length n.capacities) n.arcs is.servers
      ∙ sum_below_same (length n.capacities) _ _
      (λ j l. add-mul (slice_index p j) (at_host (n.host_of j) w) (load n x j))
      ∙ sum_below_add (length n.capacities) (λ j. slice_index p j * load n x j)
      (λ j. at_host (n.host_of j) w * load n x j)
      ∙ ap (λ s. sum_below (length n.capacities) (λ j. slice_index p j * load n x j) + s)
      (by_host n.host_of w (λ j. load n x j) (length n.capacities) (length n.limits) is.hosts)

  -- servers and hosts are paid no more than for all that they can take
  at_most_full : (x : A → ℕ) → IsFeasible n x → (p q : List ℕ)
      → sum_by (λ a. price_at n p q (n.server a) * x a) n.arcs ≤ times n.capacities p + times n.limits q
  at_most_full x feasible p q =
      let e = over_prices x p q in
      let a : sum_below (length n.capacities) (λ j. slice_index p j * load n x j) ≤ times n.capacities p =
      sum_below_le (length n.capacities) _ _
      (λ j l.
      omega (
        arith,
        mul-le-mul_left (slice_index p j) (feasible.within j l),
        mul_comm (slice_index p j) (slice_index n.capacities j),
      )) in
      let b : sum_below (length n.limits) (λ h. slice_index q h * host_load n x h) ≤ times n.limits q =
      sum_below_le (length n.limits) _ _
      (λ h l.
      omega (
        arith,
        mul-le-mul_left (slice_index q h) (feasible.hosted h l),
        mul_comm (slice_index q h) (slice_index n.limits h),
      )) in
      omega arith

  -- prices that are below each arc's cost and prices bound what every flow costs, whatever is demanded and whatever can
  -- be taken
  pub prices_bound : (u p q : List ℕ)
      → All (λ a. slice_index u (n.source a) ≤ n.cost a + price_at n p q (n.server a)) n.arcs
      → (y : A → ℕ) → IsFeasible n y → times n.demands u ≤ total_cost n y + (times n.capacities p + times n.limits q)
  prices_bound u p q below y feasible =
      let b : sum_by (λ a. slice_index u (n.source a) * y a) n.arcs
      ≤ sum_by (λ a. n.cost a * y a + price_at n p q (n.server a) * y a) n.arcs =
      sum_by_le_all _ _ n.arcs (λ k d l. at (slice_index_or n.arcs k d) (below k d l)) in
      let e = sum_by_add (λ a. n.cost a * y a) (λ a. price_at n p q (n.server a) * y a) n.arcs in
      let s : sum_by (λ a. slice_index u (n.source a) * y a) n.arcs ≡ times n.demands u =
      over_sources y feasible (λ i. slice_index u i) ∙ turned n.demands u in
      let f = at_most_full y feasible p q in
      omega arith
    where
      at : (a : A) → slice_index u (n.source a) ≤ n.cost a + price_at n p q (n.server a)
          → slice_index u (n.source a) * y a ≤ n.cost a * y a + price_at n p q (n.server a) * y a
      at a h = omega (arith, mul-le-mul_right (y a) h, add-mul (n.cost a) (price_at n p q (n.server a)) (y a))

  module _ (x : A → ℕ) (u p q : List ℕ) (prices : HasPrices n x u p q) where
    -- what the sources pay is the total and what servers and hosts are paid
    paid : sum_by (λ a. slice_index u (n.source a) * x a) n.arcs
        ≡ total_cost n x + sum_by (λ a. price_at n p q (n.server a) * x a) n.arcs
    paid =
        sum_by_same_all _ _ n.arcs
        (λ k d l. at (slice_index_or n.arcs k d) (prices.used k d l) (cases_lt 0 (x (slice_index_or n.arcs k d))))
        ∙ sum_by_add (λ a. n.cost a * x a) (λ a. price_at n p q (n.server a) * x a) n.arcs
      where
        at : (a : A) → (0 < x a → slice_index u (n.source a) ≡ n.cost a + price_at n p q (n.server a))
            → (0 < x a) ⊎ (x a ≤ 0) →
            slice_index u (n.source a) * x a ≡ n.cost a * x a + price_at n p q (n.server a) * x a
        at a h (inl l) = ap (λ v. v * x a) (h l) ∙ add-mul (n.cost a) (price_at n p q (n.server a)) (x a)
        at a h (inr l) =
            let z : x a ≡ 0 = omega arith in
            rw z (omega arith)

    -- servers and hosts that are paid anything are full
    paid_full : IsFeasible n x
        → sum_by (λ a. price_at n p q (n.server a) * x a) n.arcs ≡ times n.capacities p + times n.limits q
    paid_full feasible =
        over_prices x p q
        ∙ ap₂ (λ v w. v + w)
        (sum_below_same (length n.capacities) _ _
        (λ j l.
        at (slice_index p j) (load n x j) (slice_index n.capacities j) (feasible.within j l) (prices.idle j l)))
        (sum_below_same (length n.limits) _ _
        (λ h l.
        at (slice_index q h) (host_load n x h) (slice_index n.limits h) (feasible.hosted h l)
        (prices.idle_host h l)))
      where
        go : (price taken can : ℕ) → taken ≤ can → (taken < can → price ≡ 0) → (taken < can) ⊎ (can ≤ taken)
            → price * taken ≡ can * price
        go price taken can w idle (inl less) = let z : price ≡ 0 = idle less in rw z (omega arith)
        go price taken can w idle (inr full) =
            let e : taken ≡ can = omega arith in
            rw e (mul_comm price can)

        at : (price taken can : ℕ) → taken ≤ can → (taken < can → price ≡ 0) → price * taken ≡ can * price
        at price taken can w idle = go price taken can w idle (cases_lt taken can)

  -- the sources of a set send no more than what they can reach takes
  at_most_reached : (x : A → ℕ) → IsFeasible n x → (set : ℕ → Bool) → demand_of n set ≤ capacity_of n set
  at_most_reached x feasible set =
      let in-set : ℕ → ℕ = λ i. cond (set i) 1 0 in
      let reached : ℕ → ℕ = λ j. cond (reaches n set j) 1 0 in
      let gets : ℕ → ℕ = λ j. reached j * load n x j in
      let a : demand_of n set ≡ sum_below (length n.demands) (λ i. in-set i * slice_index n.demands i) =
      sum_below_same (length n.demands) _ _ (λ i l. once (set i) (slice_index n.demands i)) in
      let b : sum_by (λ a. in-set (n.source a) * x a) n.arcs ≤ sum_by (λ a. reached (n.server a) * x a) n.arcs =
      sum_by_le_all _ _ n.arcs (λ k d l. along k d l (cases_Bool (set (n.source (slice_index_or n.arcs k d))))) in
      let c : sum_by (λ a. reached (n.server a) * x a) n.arcs ≡ sum_below (length n.capacities) gets =
      by_key n.server x reached (length n.capacities) n.arcs is.servers in
      let s = split_host n.host_of gets (length n.capacities) (length n.limits) is.hosts in
      let unhosted : sum_below (length n.capacities) (λ j. if is_none (n.host_of j) then gets j else 0)
      ≤ sum_below (length n.capacities) (λ j. if is_none (n.host_of j) then reached_capacity n set j else 0) =
      sum_below_le (length n.capacities) _ _
      (λ j l. kept (is_none (n.host_of j)) _ _ (has (reaches n set j) _ _ (feasible.within j l))) in
      let hosted : sum_below (length n.limits) (λ h. on_host n gets h)
      ≤ sum_below (length n.limits) (λ h. min (slice_index n.limits h) (on_host n (reached_capacity n set) h)) =
      sum_below_le (length n.limits) _ _ (λ h l.
      let v : on_host n gets h ≤ on_host n (reached_capacity n set) h =
      sum_below_le (length n.capacities) _ _
      (λ j m. kept (is_on (n.host_of j) h) _ _ (has (reaches n set j) _ _ (feasible.within j m))) in
      let y : on_host n gets h ≤ host_load n x h =
      sum_below_le (length n.capacities) _ _
      (λ j m. kept (is_on (n.host_of j) h) _ _ (part (reaches n set j) (load n x j))) in
      let z : host_load n x h ≤ slice_index n.limits h = feasible.hosted h l in
      omega arith) in
      let d = over_sources x feasible in-set in
      omega arith
    where
      once : (t : Bool) (m : ℕ) → (if t then m else 0) ≡ cond t 1 0 * m
      once true m = sym (one-mul m)
      once false m = sym (zero-mul m)

      kept : (t : Bool) (l m : ℕ) → l ≤ m → (if t then l else 0) ≤ (if t then m else 0)
      kept true l m h = h
      kept false l m h = omega arith

      has : (t : Bool) (l m : ℕ) → l ≤ m → cond t 1 0 * l ≤ (if t then m else 0)
      has true l m h = omega (arith, one-mul l)
      has false l m h = omega (arith, zero-mul l)

      part : (t : Bool) (m : ℕ) → cond t 1 0 * m ≤ m
      part true m = omega (arith, one-mul m)
      part false m = omega (arith, zero-mul m)

      along : (k : ℕ) (d : A) → k < length n.arcs
          → (set (n.source (slice_index_or n.arcs k d)) ≡ true) ⊎ (set (n.source (slice_index_or n.arcs k d)) ≡ false) →
          cond (set (n.source (slice_index_or n.arcs k d))) 1 0 * x (slice_index_or n.arcs k d)
          ≤ cond (reaches n set (n.server (slice_index_or n.arcs k d))) 1 0 * x (slice_index_or n.arcs k d)
      along k d l (inl t) =
          let arc = slice_index_or n.arcs k d in
          let r : reaches n set (n.server arc) ≡ true =
          list_any_at (λ (a : A). set (n.source a) && n.server a == n.server arc) n.arcs k d l
          (and_from _ _ t (eq-eqb (n.server arc) (n.server arc) refl)) in
          rw (t, r) (omega arith)
      along k d l (inr t) = rw t (omega arith)

  -- a feasible flow with prices is cheapest, and what the sources pay is its cost and what servers and hosts take
  pub prices_show_cheapest : (x : A → ℕ) (u p q : List ℕ) → IsFeasible n x → HasPrices n x u p q →
      ((y : A → ℕ) → IsFeasible n y → total_cost n x ≤ total_cost n y)
      × (times n.demands u ≡ total_cost n x + times n.capacities p + times n.limits q)
  prices_show_cheapest x u p q feasible prices =
      let sends = over_sources x feasible (λ i. slice_index u i) in
      let pays = paid x u p q prices in
      let takes = paid_full x u p q prices feasible in
      let sums : times n.demands u ≡ total_cost n x + times n.capacities p + times n.limits q =
      omega (arith, turned n.demands u, sends, pays, takes) in (
        λ y other. let bound = prices_bound u p q prices.below y other in omega (arith, sums),
        sums,
      )

  -- where some set of sources is short no flow is feasible
  pub cut_shows_none : (set : ℕ → Bool) → IsShort n set → (x : A → ℕ) → IsFeasible n x → ⊥
  cut_shows_none set more x feasible = let l = at_most_reached x feasible set in absurd (omega arith)
