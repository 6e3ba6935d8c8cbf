-- A plan of the sources, split into a plan of their portions. Portions keep at home what they can. What is left of
-- the plan is spread over what is left of the portions.
use Rattle.std.proofs.Common.{◌≡◌, ℕ, ◌+◌, ◌-◌, ◌*◌, ◌<◌, ◌≤◌, ◌==◌, ◌∙◌, inl, inr, Bool, true, false, length}
use Rattle.std.proofs.Common.{sum_by, slice_index, slice_index_or, refl, ap, ap₂, sym, arith}
use Rattle.std.proofs.lemmas.Bool.{cases_Bool, cases_lt}
use Rattle.hsp_transport.specs.Network.{Network, IsNetwork}
use Rattle.hsp_transport.specs.Changes.{with_numbers}
use Rattle.hsp_transport.specs.Flow.{host_load, is_on, load, sent}
use Rattle.hsp_transport.specs.Plans.{Feasible, Plan, is_allowed, planned}
use Rattle.hsp_transport.specs.Kinds.{AreKinds, IsPooled, IsSpread, together}
use Rattle.hsp_transport.specs.Spread.{spread}
use Rattle.hsp_transport.specs.Sums.{sum_below}
use Rattle.hsp_transport.proofs.Rowwise.{same_by, when, when_here, when_add}
use Rattle.hsp_transport.proofs.Pooling.{within_alike}
use Rattle.hsp_transport.proofs.Spreading.{is_spread, part_below}
use Rattle.hsp_transport.proofs.Summing.{sum_below_add, sum_below_le, sum_below_same, sum_by_add, sum_by_le_all}
use Rattle.hsp_transport.proofs.Summing.{sum_by_same_all}
use Rattle.hsp_scenarios.specs.Moves.{Today, moved}
use Rattle.hsp_scenarios.specs.Portions.{ArePortions, Portions, at_home, is_away, is_home, joined, sent_away}
use Rattle.hsp_scenarios.specs.Nearest.{Split, cost_of}
use Rattle.hsp_scenarios.proofs.Adding.{listed, listed_at, listed_many}
use Rattle.hsp_scenarios.proofs.Homes.{rest_away}
use Rattle.hsp_scenarios.proofs.Carrying.{are_kinds, cost_joined, free, free_one, joined_alike, over_all}
use Rattle.hsp_scenarios.proofs.Carrying.{sent_portion}
use Rattle.hsp_scenarios.proofs.Keeping.{homed, kept, kept_allowed, kept_joined, kept_sent, kept_within}

module _ {A : Type 0} (t : Today A) (p : Portions A) (are : ArePortions t p) (x : Plan)
    (feasible : Feasible t.site t.network x) where
  abbrev n : Network A
  n = t.network

  abbrev count : ℕ
  count = length p.network.demands

  abbrev asked : ℕ → ℕ
  asked k = slice_index p.network.demands k

  abbrev at : Plan
  at = kept p x

  -- what a portion keeps in all, and what is left of it
  abbrev keeps : ℕ → ℕ
  keeps k = sum_below t.sites (at k)

  abbrev left : ℕ → ℕ
  left k = asked k - keeps k

  -- the portions, with what is left of them
  abbrev left_portions : Network A
  left_portions = with_numbers (free p.network) (listed count left) p.network.capacities p.network.limits

  -- as many as there are
  portions_many : length left_portions.demands ≡ count
  portions_many = listed_many count left

  -- what is left of a source, and the sources with that
  abbrev left_of : ℕ → ℕ
  left_of i = together left_portions p.source_of (λ k. slice_index left_portions.demands k) i

  abbrev left_sources : Network A
  left_sources = with_numbers (free n) (listed (length n.demands) left_of) n.capacities n.limits

  -- again as many
  sources_many : length left_sources.demands ≡ length n.demands
  sources_many = listed_many (length n.demands) left_of

  -- what is left of the plan
  abbrev left_plan : Plan
  left_plan i s = x i s - joined p at i s

  -- it sends no more than the plan
  left_load : (j : ℕ) → load n (planned t.site n left_plan) j ≤ load n (planned t.site n x) j
  left_load j =
      sum_by_le_all _ _ n.arcs
      (λ k d l. let a = slice_index_or n.arcs k d in
      less (n.server a == j) (x (n.source a) (t.site a)) (joined p at (n.source a) (t.site a)))
    where
      less : (t : Bool) (v w : ℕ) → when t (v - w) ≤ when t v
      less true v w = omega arith
      less false v w = omega arith

  -- over a host, too
  left_host_load : (h : ℕ) → host_load n (planned t.site n left_plan) h ≤ host_load n (planned t.site n x) h
  left_host_load h = sum_below_le (length n.capacities) _ _ (λ j l. grind (arith, left_load j))

  -- what is left of a source and what its portions keep is what it demands
  left_and_kept : (i : ℕ) → i < length n.demands
      → left_of i + together p.network p.source_of keeps i ≡ slice_index n.demands i
  left_and_kept i l =
      let some = λ (k : ℕ). when (p.source_of k == i) (slice_index left_portions.demands k) in
      ap (λ c. sum_below c some + together p.network p.source_of keeps i) portions_many
      ∙ sym (sum_below_add count some (λ k. when (p.source_of k == i) (keeps k)))
      ∙ sum_below_same count _ _ (λ k m. each (p.source_of k == i) k m)
      ∙ sym (are.demands i l)
    where
      each : (t : Bool) (k : ℕ) → k < count →
          when t (slice_index left_portions.demands k) + when t (keeps k) ≡ when t (asked k)
      each true k m = omega (arith, listed_at count left k m, kept_within t p are x feasible k)
      each false k m = refl

  -- what is left of the plan sends what is left of each source
  left_met : (i : ℕ) → i < length n.demands → sent n (planned t.site n left_plan) i ≡ left_of i
  left_met i l =
      let of = λ (y : Plan) (a : A). when (n.source a == i) (planned t.site n y a) in
      let whole : sum_by (λ a. of left_plan a + of (joined p at) a) n.arcs ≡ sent n (planned t.site n x) i =
      same_by _ _ n.arcs (λ a. each (n.source a == i) (n.source a) (t.site a)) in
      omega (
        arith,
        whole,
        sum_by_add (of left_plan) (of (joined p at)) n.arcs,
        kept_sent t p are x feasible i l,
        left_and_kept i l,
        feasible.flow.met i l,
      )
    where
      each : (t : Bool) (r s : ℕ) → when t (left_plan r s) + when t (joined p at r s) ≡ when t (x r s)
      each true r s = omega (arith, kept_joined p x r s)
      each false r s = refl

  -- so it is a plan of what is left
  left_feasible : Feasible t.site left_sources left_plan
  left_feasible = record {
    allowed = λ i s off. omega (arith, feasible.allowed i s off);
    flow = record {
      met = λ i l.
          let inside : i < length n.demands = omega (arith, sources_many) in
          left_met i inside ∙ sym (listed_at (length n.demands) left_of i inside);
      within = λ j l. omega (arith, left_load j, feasible.flow.within j l);
      hosted = λ h l. omega (arith, left_host_load h, feasible.flow.hosted h l);
    };
  }

  -- the sources are the kinds of their portions, with what is left of both
  left_kinds : AreKinds t.site left_portions left_sources p.source_of
  left_kinds = record {
    inside = λ k l. omega (arith, portions_many, sources_many, are.inside k (omega (arith, portions_many)));
    seen = λ i l.
        let portion = are.seen i (omega (arith, sources_many)) in
        (portion.0, omega (arith, portions_many, portion.1), portion.2);
    arcs = λ k l. (are_kinds t p are).arcs k (omega (arith, portions_many));
    demands = λ i l. listed_at (length n.demands) left_of i (omega (arith, sources_many));
    capacities = are.capacities;
    limits = are.limits;
    host_of = are.host_of;
  }

  -- so what is left of the plan is spread over the portions
  abbrev rest : Plan
  rest = spread left_portions p.source_of left_plan

  -- the rest is a plan of what is left of the portions, and adds up to what is left of the plan
  rest_spread : IsSpread t.site left_portions left_sources p.source_of left_plan rest
  rest_spread =
      let portions : IsNetwork left_portions = record {
        sources = rw portions_many are.portions.sources;
        servers = are.portions.servers;
        hosts = are.portions.hosts;
      } in
      let sources : IsNetwork left_sources = record {
        sources = rw sources_many are.network.sources;
        servers = are.network.servers;
        hosts = are.network.hosts;
      } in
      is_spread t.site left_portions left_sources p.source_of portions sources left_kinds
      (λ i s l. free_one t.site n are.one i s (omega (arith, sources_many))) left_plan left_feasible

  -- the portions of a source send together what is left of the plan
  rest_joined : (i s : ℕ) → i < length n.demands → joined p rest i s ≡ left_plan i s
  rest_joined i s l =
      sym (ap (λ c. sum_below c (λ k. when (p.source_of k == i) (rest k s))) portions_many)
      ∙ rest_spread.pooled i s (omega (arith, sources_many))

  -- each sends what is left of it
  rest_sent : (k : ℕ) → k < count → sum_below t.sites (rest k) ≡ left k
  rest_sent k l =
      sym (sent_portion t p are rest rest_spread.feasible.allowed k l)
      ∙ rest_spread.feasible.flow.met k (omega (arith, portions_many))
      ∙ listed_at count left k l

  -- the plan of the portions: what is kept and the rest
  abbrev split : Plan
  split k s = at k s + rest k s

  -- it adds up to the plan
  split_joined : IsPooled p.network n p.source_of split x
  split_joined i s l =
      let of = λ (y : Plan) (k : ℕ). when (p.source_of k == i) (y k s) in
      let sums : joined p split i s ≡ joined p at i s + joined p rest i s =
      sum_below_same count _ _ (λ k m. when_add (p.source_of k == i) (at k s) (rest k s))
      ∙ sum_below_add count (of at) (of rest) in
      omega (arith, sums, rest_joined i s l, kept_joined p x i s)

  -- each portion sends what it is asked for
  split_all : (k : ℕ) → k < count → sum_below t.sites (split k) ≡ asked k
  split_all k l =
      omega (arith, sum_below_add t.sites (at k) (rest k), rest_sent k l, kept_within t p are x feasible k)

  -- and nothing goes where it may not
  split_allowed : (k s : ℕ) → is_allowed t.site p.network k s ≡ false → split k s ≡ 0
  split_allowed k s off =
      omega (arith, kept_allowed t p are x feasible k s off, rest_spread.feasible.allowed k s off)

  -- each server takes what it takes of the plan
  split_load : (j : ℕ) → load p.network (planned t.site p.network split) j ≡ load n (planned t.site n x) j
  split_load j =
      (joined_alike t p are split).load j
      ∙ sum_by_same_all _ _ n.arcs
      (λ k d l. let a = slice_index_or n.arcs k d in
      ap (when (n.server a == j)) (split_joined (n.source a) (t.site a) (are.network.sources k d l)))

  -- and so does each host
  split_host_load : (h : ℕ)
      → host_load p.network (planned t.site p.network split) h ≡ host_load n (planned t.site n x) h
  split_host_load h =
      let alike = joined_alike t p are split in
      alike.host_load h
      ∙ sum_below_same (length n.capacities) _ _
      (λ j l. ap (when (is_on (n.host_of j) h)) (sym (alike.load j) ∙ split_load j))

  -- so it is a plan of the portions
  split_feasible : Feasible t.site p.network split
  split_feasible = record {
    allowed = split_allowed;
    flow = record {
      met = λ k l. sent_portion t p are split split_allowed k l ∙ split_all k l;
      within =
          within_alike n.capacities p.network.capacities _ _ (sym are.capacities) (λ j. sym (split_load j))
          feasible.flow.within;
      hosted =
          within_alike n.limits p.network.limits _ _ (sym are.limits) (λ h. sym (split_host_load h))
          feasible.flow.hosted;
    };
  }

  -- a portion sends a part of what its source sends
  part : (y : Plan) (k : ℕ) → k < count → (s : ℕ) → y k s ≤ joined p y (p.source_of k) s
  part y k l s =
      let of = λ (r : ℕ). when (p.source_of r == p.source_of k) (y r s) in
      omega (arith, part_below count k of l, when_here (p.source_of k) (y k s))

  -- Nothing of the rest goes home. Either all of the portion is kept, or nothing is left of the plan there.
  rest_elsewhere : (k : ℕ) → k < count → (s : ℕ) → s < t.sites → at_home p k s ≡ asked k → rest k s ≡ 0
  rest_elsewhere k l s m whole = elim (cases_lt (at k s) (asked k)) [
    | inl some ↦
        omega (
          arith,
          whole,
          part_below count k (homed p (p.source_of k) s) l,
          when_here (p.source_of k) (at_home p k s),
          rest_joined (p.source_of k) s (are.inside k l),
          kept_joined p x (p.source_of k) s,
          part rest k l s,
        )
    | inr all ↦ omega (arith, part_below t.sites s (at k) m, part_below t.sites s (rest k) m, rest_sent k l)
  ]

  -- so what is at home is what is kept
  home_kept : (k : ℕ) → k < count → (s : ℕ) → s < t.sites → at k s ≡ when (is_home (p.home_of k) s) (split k s)
  home_kept k l s m = elim (cases_Bool (is_home (p.home_of k) s)) [
    | inl here ↦
        let none = rest_elsewhere k l s m (ap (λ b. when b (asked k)) here) in
        omega (arith, none, ap (λ b. when b (split k s)) here)
    | inr there ↦ omega (arith, ap (λ b. when b (asked k)) there, ap (λ b. when b (split k s)) there)
  ]

  -- what goes away is what the plan moves
  split_moves : sent_away t p split ≡ moved t x
  split_moves =
      let all = λ (y : Plan) (i : ℕ). sum_below t.sites (y i) in
      let away = λ (k : ℕ). sum_below t.sites (λ s. when (is_away (p.home_of k) s) (split k s)) in
      let portions : sum_below count (all at) + sum_below count away ≡ sum_below count (all (at_home p)) =
      sym (sum_below_add count (all at) away)
      ∙ sum_below_same count _ _ (λ k l.
      rest_away t.sites (p.home_of k) (are.homes k) (asked k) (split k) (at k) (split_all k l) (home_kept k l)) in
      let moves = λ (i s : ℕ). t.old i s - x i s in
      let sources : moved t x + sum_below (length n.demands) (all (joined p at))
      ≡ sum_below (length n.demands) (all (joined p (at_home p))) =
      sym (sum_below_add (length n.demands) (all moves) (all (joined p at)))
      ∙ sum_below_same (length n.demands) _ _ (λ i l.
      sym (sum_below_add t.sites (moves i) (joined p at i))
      ∙ sum_below_same t.sites _ _ (λ s m. omega (arith, are.kept i s l m, kept_joined p x i s))) in
      omega (arith, portions, sources, over_all t p are at, over_all t p are (at_home p))

  -- and it costs what the plan costs
  split_cost : cost_of t.site n (joined p split) ≡ cost_of t.site n x
  split_cost =
      sum_by_same_all _ _ n.arcs
      (λ k d l. let a = slice_index_or n.arcs k d in
      ap (λ v. n.cost a * v) (split_joined (n.source a) (t.site a) (are.network.sources k d l)))

-- each plan is split
pub split_plans : (A : Type 0) → Split A
split_plans A t p are x feasible =
    let whole = split_feasible t p are x feasible in
    let away = split_moves t p are x feasible in (
      split t p are x feasible,
      record {
        feasible = whole;
        joins = split_joined t p are x feasible;
        cost = cost_joined t p are _ whole ∙ ap₂ (λ v w. p.weight * v + w) (split_cost t p are x feasible) away;
        away = away;
      },
    )
