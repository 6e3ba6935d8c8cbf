-- What is counted over the arcs of portions is counted over those of their sources, and over sites.
use Rattle.std.proofs.Common.{◌≡◌, ℕ, ◌+◌, ◌*◌, ◌<◌, ◌==◌, ◌∙◌, Bool, true, false, List, length, map, sum_by}
use Rattle.std.proofs.Common.{if◌then◌else◌, ap, ap₂, sym, arith, add-mul, mul_assoc, one-mul, zero-mul}
use Rattle.std.specs.Prelude.{filter}
use Rattle.std.proofs.lemmas.Simd.{map-map}
use Rattle.std.proofs.lemmas.List.Elements.{All-filter, All-map}
use Rattle.hsp_transport.specs.Network.{Network, IsNetwork}
use Rattle.hsp_transport.specs.Flow.{sent}
use Rattle.hsp_transport.specs.Plans.{Feasible, Plan, is_allowed, planned}
use Rattle.hsp_transport.specs.Kinds.{AreAlikeIn, AreKinds, HasOneArcASite, Link, link_of, links_of, links_to}
use Rattle.hsp_transport.specs.Sums.{sum_below}
use Rattle.hsp_transport.proofs.Rowwise.{allowed_by, by_kinds, by_rows, same_by, sum_below_times, when, when_zero}
use Rattle.hsp_transport.proofs.Rowwise.{sum_below_when}
use Rattle.hsp_transport.proofs.Pooling.{allowed_alike, kind_sends, pool_feasible, pooled_alike, sent_is, weighed}
use Rattle.hsp_transport.proofs.Spreading.{over_sites}
use Rattle.hsp_transport.proofs.Summing.{sum_below_add, sum_below_same, sum_by_add, sum_by_map, sum_by_times}
use Rattle.hsp_scenarios.specs.Moves.{Today}
use Rattle.hsp_scenarios.specs.Portions.{ArePortions, Portions, is_away, joined, priced, sent_away}
use Rattle.hsp_scenarios.specs.Nearest.{cost_of}
use Rattle.hsp_scenarios.proofs.Adding.{below_turned}

-- the network where nothing costs anything
abbrev pub free : {A : Type 0} → Network A → Network A
free n = record {
  demands = n.demands;
  capacities = n.capacities;
  limits = n.limits;
  host_of = n.host_of;
  arcs = n.arcs;
  source = n.source;
  server = n.server;
  cost = λ a. 0;
}

-- a link there
abbrev unpaid : Link → Link
unpaid l = record { site = l.site; server = l.server; cost = 0 }

module _ {A : Type 0} (site : A → ℕ) (n : Network A) where
  -- its ends are those of the network
  pub free_network : IsNetwork n → IsNetwork (free n)
  free_network is = record { sources = is.sources; servers = is.servers; hosts = is.hosts }

  -- so are its links, but for what they cost
  free_links : (i : ℕ) → links_of site (free n) i ≡ map unpaid (links_of site n i)
  free_links i = sym (map-map unpaid (link_of site n) (filter (λ a. n.source a == i) n.arcs))

  -- so no source has two arcs to one site where none has
  pub free_one : HasOneArcASite site n → HasOneArcASite site (free n)
  free_one one i s l =
      let own = links_of site n i in
      let same : links_to (links_of site (free n) i) s ≡ links_to own s =
      ap (λ links. links_to links s) (free_links i) ∙ sum_by_map (λ a. when (a.site == s) 1) unpaid own in
      omega (arith, one i s l)

-- All portions of a source have what it has.
pub over_all : {A : Type 0} (t : Today A) (p : Portions A) → ArePortions t p → (y : Plan) →
    sum_below (length t.network.demands) (λ i. sum_below t.sites (joined p y i))
    ≡ sum_below (length p.network.demands) (λ k. sum_below t.sites (y k))
over_all t p are y =
    sum_below_same (length t.network.demands) _ _ (λ i l.
    below_turned t.sites (length p.network.demands) (λ s k. when (p.source_of k == i) (y k s))
    ∙ sum_below_same (length p.network.demands) _ _ (λ k m. sum_below_when (p.source_of k == i) t.sites (y k)))
    ∙ sym
    (by_kinds (length t.network.demands) p.source_of (λ i k. sum_below t.sites (y k)) (length p.network.demands)
    are.inside)

module _ {A : Type 0} (t : Today A) (p : Portions A) (are : ArePortions t p) where
  abbrev n : Network A
  n = t.network

  abbrev count : ℕ
  count = length p.network.demands

  -- the links of a portion's source
  abbrev own : ℕ → List Link
  own k = links_of t.site n (p.source_of k)

  -- but for costs the sources are the kinds of their portions
  pub are_kinds : AreKinds t.site (free p.network) (free n) p.source_of
  are_kinds = record {
    inside = are.inside;
    seen = are.seen;
    arcs = λ k l.
        free_links t.site p.network k
        ∙ ap (map unpaid) (are.links k l)
        ∙ map-map unpaid (priced p.weight (p.home_of k)) (own k)
        ∙ sym (free_links t.site n (p.source_of k));
    demands = are.demands;
    capacities = are.capacities;
    limits = are.limits;
    host_of = are.host_of;
  }

  -- the portions are a network where nothing costs anything
  portions_free : IsNetwork (free p.network)
  portions_free = free_network t.site p.network are.portions

  -- and so are the sources
  sources_free : IsNetwork (free n)
  sources_free = free_network t.site n are.network

  -- so a plan of portions brings what the joined plan brings
  pub joined_alike : (y : Plan) → AreAlikeIn t.site (free p.network) (free n) y (joined p y)
  joined_alike = pooled_alike t.site (free p.network) (free n) p.source_of portions_free sources_free are_kinds

  -- and the joined plan is feasible where it is
  pub joined_feasible : (y : Plan) → Feasible t.site p.network y → Feasible t.site n (joined p y)
  joined_feasible y feasible =
      let pool =
      pool_feasible t.site (free p.network) (free n) p.source_of portions_free sources_free are_kinds y
      (record {
        allowed = feasible.allowed;
        flow = record { met = feasible.flow.met; within = feasible.flow.within; hosted = feasible.flow.hosted };
      }) in
      record {
        allowed = pool.allowed;
        flow = record { met = pool.flow.met; within = pool.flow.within; hosted = pool.flow.hosted };
      }

  -- what goes where an arc leads, over the links of a source, is what goes to all sites
  over_links : (i : ℕ) → i < length n.demands → (x : ℕ → ℕ) → ((s : ℕ) → is_allowed t.site n i s ≡ false → x s ≡ 0)
      → sum_by (λ a. 1 * x a.site) (links_of t.site n i) ≡ sum_below t.sites x
  over_links i l x off =
      over_sites (links_of t.site n i) t.sites x
      (All-map (λ (a : Link). a.site < t.sites) (link_of t.site n) (filter (λ a. n.source a == i) n.arcs)
      (All-filter (λ a. n.source a == i) (λ a. t.site a < t.sites) n.arcs are.sites))
      (λ s. are.one i s l)
      (λ s none. off s (allowed_by t.site n n.arcs i s ∙ none))

  -- a source's plan
  pub sent_source : (x : Plan) → ((i s : ℕ) → is_allowed t.site n i s ≡ false → x i s ≡ 0) →
      (i : ℕ) → i < length n.demands → sent n (planned t.site n x) i ≡ sum_below t.sites (x i)
  sent_source x off i l = sent_is t.site n x i ∙ over_links i l (x i) (off i)

  -- a portion may go where its source may
  pub allowed_is : (k s : ℕ) → k < count → is_allowed t.site p.network k s ≡ is_allowed t.site n (p.source_of k) s
  allowed_is = allowed_alike t.site (free p.network) (free n) p.source_of portions_free sources_free are_kinds

  -- so the same holds of a portion
  over_own : (k : ℕ) → k < count → (y : ℕ → ℕ) → ((s : ℕ) → is_allowed t.site p.network k s ≡ false → y s ≡ 0)
      → sum_by (λ a. 1 * y a.site) (own k) ≡ sum_below t.sites y
  over_own k l y off = over_links (p.source_of k) (are.inside k l) y (λ s none. off s (allowed_is k s l ∙ none))

  -- a portion's plan
  pub sent_portion : (y : Plan) → ((k s : ℕ) → is_allowed t.site p.network k s ≡ false → y k s ≡ 0) →
      (k : ℕ) → k < count → sent p.network (planned t.site p.network y) k ≡ sum_below t.sites (y k)
  sent_portion y off k l =
      sent_is t.site p.network y k
      ∙ ap (sum_by (λ a. 1 * y k a.site)) (are.links k l)
      ∙ sum_by_map (λ a. 1 * y k a.site) (priced p.weight (p.home_of k)) (own k)
      ∙ over_own k l (y k) (off k)

  -- what portions send over the links of their sources, weighed, is what the sources send together
  over_sources : (c : Link → ℕ) (y : Plan)
      → sum_below count (λ k. sum_by (λ l. c l * y k l.site) (own k)) ≡ weighed t.site n c (joined p y)
  over_sources c y =
      by_kinds (length n.demands) p.source_of (λ i k. sum_by (λ l. c l * y k l.site) (links_of t.site n i)) count
      are.inside
      ∙ sum_below_same (length n.demands) _ _
      (λ i l. sym
      (kind_sends t.site (free p.network) (free n) p.source_of portions_free sources_free are_kinds c y
      (links_of t.site n i) i))
      ∙ sym (by_rows t.site n (length n.demands) n.arcs are.network.sources (λ i l. c l * joined p y i l.site))

  -- a plan of portions costs what the sources pay, so many times, and what goes away
  pub cost_joined : (y : Plan) → Feasible t.site p.network y
      → cost_of t.site p.network y ≡ p.weight * cost_of t.site n (joined p y) + sent_away t p y
  cost_joined y feasible =
      let paid = λ (k : ℕ). sum_by (λ l. l.cost * y k l.site) (own k) in
      let gone = λ (k s : ℕ). when (is_away (p.home_of k) s) (y k s) in
      by_rows t.site p.network count p.network.arcs are.portions.sources (λ k l. l.cost * y k l.site)
      ∙ sum_below_same count _ _ (λ k l.
      ap (sum_by (λ a. a.cost * y k a.site)) (are.links k l)
      ∙ sum_by_map (λ a. a.cost * y k a.site) (priced p.weight (p.home_of k)) (own k)
      ∙ same_by _ _ (own k) (λ a. each a.cost (is_away (p.home_of k) a.site) (y k a.site))
      ∙ sum_by_add (λ a. p.weight * (a.cost * y k a.site)) (λ a. 1 * gone k a.site) (own k)
      ∙ ap₂ (λ v w. v + w) (sum_by_times p.weight (λ a. a.cost * y k a.site) (own k))
      (over_own k l (gone k) (λ s off. nothing (is_away (p.home_of k) s) (feasible.allowed k s off))))
      ∙ sum_below_add count (λ k. p.weight * paid k) (λ k. sum_below t.sites (gone k))
      ∙ ap (λ v. v + sent_away t p y)
      (sym (sum_below_times count p.weight paid) ∙ ap (λ v. p.weight * v) (over_sources (λ l. l.cost) y))
    where
      each : (c : ℕ) (b : Bool) (v : ℕ) →
          (p.weight * c + (if b then 1 else 0)) * v ≡ p.weight * (c * v) + 1 * when b v
      each c true v = omega (arith, add-mul (p.weight * c) 1 v, mul_assoc p.weight c v, one-mul v)
      each c false v = omega (arith, add-mul (p.weight * c) 0 v, mul_assoc p.weight c v, zero-mul v)

      nothing : (b : Bool) → {v : ℕ} → v ≡ 0 → when b v ≡ 0
      nothing b e = ap (when b) e ∙ when_zero b
