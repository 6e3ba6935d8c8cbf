-- A plan of kinds, spread over their sources, is a plan of the sources.
use Rattle.std.proofs.Common.{◌≡◌, ℕ, zero, suc, ◌+◌, ◌-◌, ◌*◌, ◌<◌, ◌≤◌, ◌==◌, ◌⊎◌, inl, inr, false, List, [], ◌∷◌}
use Rattle.std.proofs.Common.{length, sum_by, slice_index, All, min, refl, ap, sym, ◌∙◌, arith, one-mul, mul_comm}
use Rattle.std.proofs.Common.{eq-eqb, ne_eqb}
use Rattle.std.specs.List.{list_any}
use Rattle.std.proofs.lemmas.Bool.{cases_Bool, cases_eq, cases_lt}
use Rattle.std.proofs.lemmas.List.{get_or_past}
use Rattle.std.proofs.lemmas.List.Folds.{list_any_none}
use Rattle.std.proofs.lemmas.List.Sums.{sum_by-cons}
use Rattle.std.proofs.lemmas.List.Elements.{All-cons, All-nil, All-weaker}
use Rattle.hsp_transport.specs.Sums.{sum_below}
use Rattle.hsp_transport.specs.Network.{Network, IsNetwork}
use Rattle.hsp_transport.specs.Flow.{sent}
use Rattle.hsp_transport.specs.Plans.{Best, Feasible, Plan, is_allowed, planned}
use Rattle.hsp_transport.specs.Kinds.{AreAlikeIn, AreKinds, HasOneArcASite, IsPooled, IsSpread, Link, link_of, links_in}
use Rattle.hsp_transport.specs.Kinds.{links_of, links_to, pooled}
use Rattle.hsp_transport.specs.Spread.{asked_before, beside, sent_before, spread}
use Rattle.hsp_transport.proofs.Summing.{sum_below_same, by_key, sum_by_same_all}
use Rattle.hsp_transport.proofs.Rowwise.{when, when_here, allowed_by, same_by}
use Rattle.hsp_transport.proofs.Pooling.{weighed, alike_by, carried_over, sent_is, allowed_alike, pool_feasible}
use Rattle.hsp_transport.proofs.Pooling.{pooled_alike, within_alike}

-- a line cut up at one side
pub along_rows : (n : ℕ) (e : ℕ → ℕ) (c d : ℕ) → c ≤ d
    → sum_below n (λ i. beside (sum_below i e) (sum_below i e + e i) c d) ≡ min (sum_below n e) d - c
along_rows zero e c d l = omega arith
along_rows (suc n) e c d l = omega (arith, along_rows n e c d l)

-- and at the other
pub along_sites : (n : ℕ) (y : ℕ → ℕ) (a b : ℕ) → a ≤ b
    → sum_below n (λ s. beside a b (sum_below s y) (sum_below s y + y s))
    ≡ min b (sum_below n y) - min a (sum_below n y)
along_sites zero y a b l = omega arith
along_sites (suc n) y a b l = omega (arith, along_sites n y a b l)

-- a part of a sum
pub part_below : (n i : ℕ) (e : ℕ → ℕ) → i < n → sum_below i e + e i ≤ sum_below n e
part_below zero i e l = absurd (omega arith)
part_below (suc n) i e l = grind (arith, part_below n i e)

-- a number above all sites of arcs
abbrev pub above : {A : Type 0} → (A → ℕ) → List A → ℕ
above site [] = 0
above site (a ∷ arcs) = site a + 1 + above site arcs

-- the sites of a row's arcs lie below the bound of all sites
pub all_below : {A : Type 0} (site : A → ℕ) (n : Network A) (arcs : List A) (i : ℕ)
    → All (λ (a : Link). a.site < above site arcs) (links_in site n arcs i)
all_below site n [] i = All-nil (λ (a : Link). a.site < 0)
all_below site n (a ∷ arcs) i =
    let within = λ (b : Link). b.site < above site (a ∷ arcs) in
    let rest =
    All-weaker (λ b. b.site < above site arcs) within (λ b l. omega arith) (links_in site n arcs i)
    (all_below site n arcs i) in
    elim (cases_Bool (n.source a == i)) [
      | inl t ↦ rw t (All-cons within (link_of site n a) (links_in site n arcs i) (omega arith) rest)
      | inr f ↦ rw f rest
    ]

-- no arc leads to a site that none does
pub none_to : (arcs : List Link) (s : ℕ) → links_to arcs s ≡ 0 → list_any (λ a. a.site == s) arcs ≡ false
none_to [] s e = refl
none_to (a ∷ arcs) s e = grind (arith, sum_by-cons (λ b. when (b.site == s) 1) a arcs, none_to arcs s)

-- what a source sends over its links is what it sends to all sites, where it has one arc a site and sends nothing where
-- it may not
pub over_sites : (arcs : List Link) (most : ℕ) (x : ℕ → ℕ) → All (λ a. a.site < most) arcs
    → ((s : ℕ) → links_to arcs s ≤ 1) →
    ((s : ℕ) → list_any (λ a. a.site == s) arcs ≡ false → x s ≡ 0) → sum_by (λ a. 1 * x a.site) arcs ≡ sum_below most x
over_sites arcs most x inside one none =
    same_by _ _ arcs (λ a. mul_comm 1 (x a.site))
    ∙ by_key (λ (a : Link). a.site) (λ a. 1) x most arcs inside
    ∙ sum_below_same most _ _ (λ s l. each s (cases_eq (links_to arcs s) 0))
  where
    each : (s : ℕ) → (links_to arcs s ≡ 0) ⊎ (links_to arcs s ≡ 0 → ⊥) → x s * links_to arcs s ≡ x s
    each s (inl e) = rw (none s (none_to arcs s e)) (omega arith)
    each s (inr ne) = let e : links_to arcs s ≡ 1 = omega (arith, one s) in rw e (mul_comm (x s) 1 ∙ one-mul (x s))

module _ {A : Type 0} (site : A → ℕ) (n m : Network A) (kind : ℕ → ℕ) (n-is : IsNetwork n) (m-is : IsNetwork m)
    (are : AreKinds site n m kind) (one : HasOneArcASite site m) (y : Plan) (feasible : Feasible site m y) where
  -- what goes from a kind to all sites is what it demands
  sent_all : (k : ℕ) → k < length m.demands → sum_below (above site m.arcs) (y k) ≡ slice_index m.demands k
  sent_all k l =
      sym
      (over_sites (links_of site m k) (above site m.arcs) (y k) (all_below site m m.arcs k) (λ s. one k s l)
      (λ s off. feasible.allowed k s (allowed_by site m m.arcs k s ∙ off)))
      ∙ sym (sent_is site m y k) ∙ feasible.flow.met k l

  -- what the sources of a kind demand is what it demands
  asked_all : (k : ℕ) → k < length m.demands → asked_before n kind k (length n.demands) ≡ slice_index m.demands k
  asked_all k l = sym (are.demands k l)

  -- nothing goes to a site beyond all arcs
  beyond : (k s : ℕ) → above site m.arcs ≤ s → y k s ≡ 0
  beyond k s l =
      feasible.allowed k s (allowed_by site m m.arcs k s ∙ none (links_of site m k) (all_below site m m.arcs k))
    where
      none : (arcs : List Link) → All (λ a. a.site < above site m.arcs) arcs → list_any (λ a. a.site == s) arcs ≡ false
      none arcs below =
          list_any_none (λ a. a.site == s) arcs
          (All-weaker (λ (a : Link). a.site < above site m.arcs) (λ a. (a.site == s) ≡ false)
          (λ a b. ne_eqb a.site s (λ e. omega arith)) arcs below)

  -- the sources of a kind send together what the kind sends
  rows_of_kind : IsPooled n m kind (spread n kind y) y
  rows_of_kind k s l =
      let e : ℕ → ℕ = λ r. when (kind r == k) (slice_index n.demands r) in
      let c = sent_before y k s in
      let d = sent_before y k s + y k s in
      sum_below_same (length n.demands) _ _ (λ i m. each i)
      ∙ along_rows (length n.demands) e c d (omega arith)
      ∙ all
    where
      each : (i : ℕ) →
          when (kind i == k) (spread n kind y i s)
          ≡ beside (asked_before n kind k i) (asked_before n kind k i + when (kind i == k) (slice_index n.demands i))
          (sent_before y k s) (sent_before y k s + y k s)
      each i = elim (cases_eq (kind i) k) [
        | inl e ↦ rw e (rw (eq-eqb k k refl))
        | inr ne ↦ rw (ne_eqb (kind i) k ne) (omega arith)
      ]

      all : min (asked_before n kind k (length n.demands)) (sent_before y k s + y k s) - sent_before y k s ≡ y k s
      all = elim (cases_lt s (above site m.arcs)) [
        | inl b ↦ omega (arith, part_below (above site m.arcs) s (y k) b, sent_all k l, asked_all k l)
        | inr b ↦ omega (arith, beyond k s b)
      ]

  -- nothing goes where a source may not
  spread_allowed : (i s : ℕ) → is_allowed site n i s ≡ false → spread n kind y i s ≡ 0
  spread_allowed i s off = elim (cases_lt i (length n.demands)) [
    | inl l ↦ omega (arith, feasible.allowed (kind i) s (sym (allowed_alike site n m kind n-is m-is are i s l) ∙ off))
    | inr l ↦ omega (arith, get_or_past n.demands i 0 l)
  ]

  -- a source sends what it demands
  spread_met : (i : ℕ) → i < length n.demands → sent n (planned site n (spread n kind y)) i ≡ slice_index n.demands i
  spread_met i l =
      let k = kind i in
      let in-kinds : k < length m.demands = are.inside i l in
      let e : ℕ → ℕ = λ r. when (kind r == k) (slice_index n.demands r) in
      let own : e i ≡ slice_index n.demands i = when_here k (slice_index n.demands i) in
      sent_is site n (spread n kind y) i
      ∙ ap (λ arcs. sum_by (λ a. 1 * spread n kind y i a.site) arcs) (are.arcs i l)
      ∙ over_sites (links_of site m k) (above site m.arcs) (spread n kind y i) (all_below site m m.arcs k)
      (λ s. one k s in-kinds)
      (λ s off.
      spread_allowed i s (allowed_alike site n m kind n-is m-is are i s l ∙ allowed_by site m m.arcs k s ∙ off))
      ∙ along_sites (above site m.arcs) (y k) (asked_before n kind k i)
      (asked_before n kind k i + slice_index n.demands i) (omega arith)
      ∙ omega (arith, part_below (length n.demands) i e l, sent_all k in-kinds, asked_all k in-kinds)

  -- a weighed sum is the same of plans that send the same over all arcs
  same_weighed : (c : Link → ℕ) → weighed site m c (pooled n kind (spread n kind y)) ≡ weighed site m c y
  same_weighed c =
      sum_by_same_all _ _ m.arcs
      (All-weaker (λ a. m.source a < length m.demands) _
      (λ a l. ap (λ v. c (link_of site m a) * v) (rows_of_kind (m.source a) (site a) l)) m.arcs m-is.sources)

  -- the spread plan has the same weighed sums as the plan of the kinds
  spread_alike : AreAlikeIn site n m (spread n kind y) y
  spread_alike =
      alike_by site n m (spread n kind y) y are.capacities are.host_of
      (λ c. carried_over site n m kind n-is m-is are c (spread n kind y) ∙ same_weighed c)

  -- a feasible plan of kinds is spread to a feasible plan of sources
  spread_feasible : Feasible site n (spread n kind y)
  spread_feasible = record {
    allowed = spread_allowed;
    flow = record {
      met = spread_met;
      within =
          within_alike m.capacities n.capacities _ _ (sym are.capacities) (λ j. sym (spread_alike.load j))
          feasible.flow.within;
      hosted =
          within_alike m.limits n.limits _ _ (sym are.limits) (λ h. sym (spread_alike.host_load h))
          feasible.flow.hosted;
    };
  }

  -- a best plan of kinds is spread to a best plan of sources
  spread_best : Best site m y → Best site n (spread n kind y)
  spread_best best = record {
    feasible = spread_feasible;
    least = λ z other.
        let a = best.least (pooled n kind z) (pool_feasible site n m kind n-is m-is are z other) in
        omega (arith, a, (pooled_alike site n m kind n-is m-is are z).total, spread_alike.total);
  }

  -- the spread plan is one of the sources, with the same cost and loads, and best where that of the kinds is
  pub is_spread : IsSpread site n m kind y (spread n kind y)
  is_spread = record { feasible = spread_feasible; pooled = rows_of_kind; alike = spread_alike; best = spread_best }
