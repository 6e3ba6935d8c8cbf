-- A network whose arcs are numbered, with their ends and costs by number: a flow, its prices and a cut are the same
-- there.
use Rattle.std.proofs.Common.{◌≡◌, ℕ, ◌+◌, ◌*◌, ◌<◌, ◌≤◌, ◌==◌, ◌∙◌, Bool, List, length, sum_by, slice_index}
use Rattle.std.proofs.Common.{slice_index_or, is_none, min, if◌then◌else◌, ap, ap₂, sym, arith}
use Rattle.std.specs.Prelude.{◌&&◌}
use Rattle.std.specs.List.{range_with_len}
use Rattle.std.proofs.lemmas.List.Elements.{All-from_get_or}
use Rattle.hsp_transport.specs.Cut.{capacity_of, demand_of, reached_capacity}
use Rattle.hsp_transport.specs.Flow.{IsFeasible, host_load, is_on, load, total_cost}
use Rattle.hsp_transport.specs.Network.{Network}
use Rattle.hsp_transport.specs.Prices.{HasPrices, price_at}
use Rattle.hsp_transport.specs.Sums.{any_below, sum_below}
use Rattle.hsp_transport.proofs.Places.{any_number, any_place, any_same, each_number, sum_numbers}
use Rattle.hsp_transport.proofs.Summing.{by_place, sum_below_same}

module _ {A : Type 0} (n : Network A) (d : A) (count : ℕ) (many : length n.arcs ≡ count) (source server cost : ℕ → ℕ)
    (sources : (k : ℕ) → k < length n.arcs → n.source (slice_index_or n.arcs k d) ≡ source k)
    (servers : (k : ℕ) → k < length n.arcs → n.server (slice_index_or n.arcs k d) ≡ server k)
    (costs : (k : ℕ) → k < length n.arcs → n.cost (slice_index_or n.arcs k d) ≡ cost k) where
  abbrev numbered : Network ℕ
  numbered = record {
    demands = n.demands;
    capacities = n.capacities;
    limits = n.limits;
    host_of = n.host_of;
    arcs = range_with_len 0 count;
    source = source;
    server = server;
    cost = cost;
  }

  -- a sum over arcs is the sum over their numbers
  sums : (f : A → ℕ) (g : ℕ → ℕ) → ((k : ℕ) → k < length n.arcs → f (slice_index_or n.arcs k d) ≡ g k)
      → sum_by f n.arcs ≡ sum_by g (range_with_len 0 count)
  sums f g same =
      by_place f d n.arcs ∙ sum_below_same (length n.arcs) _ _ same ∙ ap (λ c. sum_below c g) many
      ∙ sym (sum_numbers g count)

  module _ (f : A → ℕ) (g : ℕ → ℕ) (flows : (k : ℕ) → k < length n.arcs → f (slice_index_or n.arcs k d) ≡ g k) where
    -- each server has the same load
    load_alike : (j : ℕ) → load n f j ≡ load numbered g j
    load_alike j = sums _ _ (λ k l. ap₂ (λ s x. if s == j then x else 0) (servers k l) (flows k l))

    -- each host has the same load
    host_alike : (h : ℕ) → host_load n f h ≡ host_load numbered g h
    host_alike h =
        sum_below_same (length n.capacities) _ _
        (λ j l. ap (λ x. if is_on (n.host_of j) h then x else 0) (load_alike j))

    -- the flow costs the same
    pub cost_alike : total_cost n f ≡ sum_below count (λ k. cost k * g k)
    cost_alike = sums _ _ (λ k l. ap₂ (λ c x. c * x) (costs k l) (flows k l)) ∙ sum_numbers (λ k. cost k * g k) count

    -- a flow that is feasible by numbers is feasible
    pub feasible_alike : IsFeasible numbered g → IsFeasible n f
    feasible_alike feasible = record {
      met = λ i l. sums _ _ (λ k m. ap₂ (λ s x. if s == i then x else 0) (sources k m) (flows k m)) ∙ feasible.met i l;
      within = λ j l. rw (load_alike j) (feasible.within j l);
      hosted = λ h l. rw (host_alike h) (feasible.hosted h l);
    }

    -- what a unit on an arc costs with all prices
    abbrev whole : List ℕ → List ℕ → ℕ → ℕ
    whole p q k = cost k + price_at n p q (server k)

    -- prices of the flow by numbers are prices of the flow
    pub prices_alike : (u p q : List ℕ) → HasPrices numbered g u p q → HasPrices n f u p q
    prices_alike u p q prices = record {
      below =
          All-from_get_or (λ a. slice_index u (n.source a) ≤ n.cost a + price_at n p q (n.server a)) n.arcs d (λ k l.
          rw (sources k l, servers k l, costs k l)
          (each_number (λ k. slice_index u (source k) ≤ whole p q k) count prices.below k (omega (arith, many))));
      used =
          All-from_get_or (λ a. 0 < f a → slice_index u (n.source a) ≡ n.cost a + price_at n p q (n.server a)) n.arcs d
          (λ k l some.
          rw (sources k l, servers k l, costs k l)
          (each_number (λ k. 0 < g k → slice_index u (source k) ≡ whole p q k) count prices.used k
          (omega (arith, many)) (rw (sym (flows k l)) some)));
      idle = λ j l less. prices.idle j l (rw (sym (load_alike j)) less);
      idle_host = λ h l less. prices.idle_host h l (rw (sym (host_alike h)) less);
    }

  module _ (s t : ℕ → Bool) (same : (i : ℕ) → s i ≡ t i) where
    -- a set reaches the same capacity at each server
    room_alike : (j : ℕ) → reached_capacity n s j ≡ reached_capacity numbered t j
    room_alike j = ap (λ r. if r then slice_index n.capacities j else 0) (
        any_place (λ a. s (n.source a) && n.server a == j) d n.arcs
        ∙ any_same (length n.arcs) _ _
        (λ k l.
        ap₂ (λ r v. r && v == j) (same (n.source (slice_index_or n.arcs k d)) ∙ ap t (sources k l)) (servers k l))
        ∙ ap (λ c. any_below c (λ k. t (source k) && server k == j)) many
        ∙ sym (any_number (λ k. t (source k) && server k == j) count))

    -- a set has the same demand
    pub demand_alike : demand_of n s ≡ demand_of numbered t
    demand_alike =
        sum_below_same (length n.demands) _ _ (λ i l. ap (λ r. if r then slice_index n.demands i else 0) (same i))

    -- a set has the same capacity
    pub capacity_alike : capacity_of n s ≡ capacity_of numbered t
    capacity_alike = ap₂ (λ x y. x + y)
        (sum_below_same (length n.capacities) _ _
        (λ j l. ap (λ x. if is_none (n.host_of j) then x else 0) (room_alike j)))
        (sum_below_same (length n.limits) _ _ (λ h l. ap (min (slice_index n.limits h))
        (sum_below_same (length n.capacities) _ _
        (λ j k. ap (λ x. if is_on (n.host_of j) h then x else 0) (room_alike j)))))
