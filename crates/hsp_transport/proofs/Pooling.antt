-- A plan of sources, pooled by their kinds.
use Rattle.std.proofs.Common.{◌≡◌, ℕ, ◌*◌, ◌<◌, ◌≤◌, ◌==◌, Bool, cond, List, length, sum_by, slice_index, if◌then◌else◌}
use Rattle.std.proofs.Common.{ap, ap₂, sym, ◌∙◌, arith, one-mul, zero-mul}
use Rattle.std.specs.List.{list_any}
use Rattle.hsp_transport.specs.Sums.{sum_below}
use Rattle.hsp_transport.specs.Network.{Network, IsNetwork}
use Rattle.hsp_transport.specs.Flow.{is_on, load, sent}
use Rattle.hsp_transport.specs.Plans.{Feasible, Plan, is_allowed, planned}
use Rattle.hsp_transport.specs.Kinds.{AreAlikeIn, AreKinds, Link, link_of, links_of, pooled, together}
use Rattle.hsp_transport.proofs.Summing.{sum_below_same, sum_below_zero}
use Rattle.hsp_transport.proofs.Rowwise.{when, when_zero, by_rows, by_row, allowed_by, by_kinds, turned, sum_by_when}
use Rattle.hsp_transport.proofs.Rowwise.{sum_below_times, times_when, same_by}

-- what a plan sends over arcs, each with a weight
abbrev pub weighed : {A : Type 0} → (A → ℕ) → Network A → (Link → ℕ) → Plan → ℕ
weighed site n c x = sum_by (λ a. c (link_of site n a) * planned site n x a) n.arcs

-- the loads and the cost are such sums
abbrev pub at_server : ℕ → Link → ℕ
at_server j a = cond (a.server == j) 1 0

-- a condition is a factor of one or zero
once : (t : Bool) (v : ℕ) → when t v ≡ cond t 1 0 * v
once t v = grind (arith, one-mul v, zero-mul v)

-- the load of a server is the sum of the plan weighed by whether an arc leads there
load_is : {A : Type 0} (site : A → ℕ) (n : Network A) (x : Plan) (j : ℕ)
    → load n (planned site n x) j ≡ weighed site n (at_server j) x
load_is site n x j = same_by _ _ n.arcs (λ a. once (n.server a == j) (planned site n x a))

-- two plans that give the same weighed sums are alike
pub alike_by : {A : Type 0} (site : A → ℕ) (n m : Network A) (x y : Plan) → n.capacities ≡ m.capacities
    → ((j : ℕ) → n.host_of j ≡ m.host_of j)
    → ((c : Link → ℕ) → weighed site n c x ≡ weighed site m c y) → AreAlikeIn site n m x y
alike_by site n m x y caps host_of same =
    let loads : (j : ℕ) → load n (planned site n x) j ≡ load m (planned site m y) j =
    λ j. load_is site n x j ∙ same (at_server j) ∙ sym (load_is site m y j) in
    record {
      total = same (λ a. a.cost);
      load = loads;
      host_load = λ h.
          sum_below_same (length n.capacities) _ _
          (λ j l. ap₂ (λ o v. if is_on o h then v else 0) (host_of j) (loads j))
          ∙ ap (λ caps. sum_below (length caps) (λ j. if is_on (m.host_of j) h then load m (planned site m y) j else 0))
          caps;
    }

-- what a source sends, over its own links
pub sent_is : {A : Type 0} (site : A → ℕ) (n : Network A) (x : Plan) (i : ℕ)
    → sent n (planned site n x) i ≡ sum_by (λ a. 1 * x i a.site) (links_of site n i)
sent_is site n x i =
    by_row site n n.arcs i (λ r a. x r a.site) ∙ same_by _ _ (links_of site n i) (λ a. sym (one-mul (x i a.site)))

-- loads within bounds, and equal loads within equal ones
pub within_alike : (own other : List ℕ) (f g : ℕ → ℕ) → own ≡ other → ((j : ℕ) → f j ≡ g j) →
    ((j : ℕ) → j < length own → f j ≤ slice_index own j) → (j : ℕ) → j < length other → g j ≤ slice_index other j
within_alike own other f g same loads within j l = rw (← same, ← loads j) (within j (rw same l))

module _ {A : Type 0} (site : A → ℕ) (n m : Network A) (kind : ℕ → ℕ) (n-is : IsNetwork n) (m-is : IsNetwork m)
    (are : AreKinds site n m kind) where
  -- what a source sends over its kind's arcs, and what the kind sends
  pub kind_sends : (c : Link → ℕ) (x : Plan) (arcs : List Link) (k : ℕ) →
      sum_by (λ a. c a * pooled n kind x k a.site) arcs ≡ together n kind (λ i. sum_by (λ a. c a * x i a.site) arcs) k
  kind_sends c x arcs k =
      same_by _ _ arcs (λ a. sum_below_times (length n.demands) (c a) (λ i. when (kind i == k) (x i a.site))
      ∙ sum_below_same (length n.demands) _ _ (λ i l. times_when (c a) (x i a.site) (kind i == k)))
      ∙ turned (λ i a. when (kind i == k) (c a * x i a.site)) arcs (length n.demands)
      ∙ sum_below_same (length n.demands) _ _ (λ i l. sum_by_when (kind i == k) (λ a. c a * x i a.site) arcs)

  -- a weighed sum over the sources' arcs is that over their kinds'
  pub carried_over : (c : Link → ℕ) (x : Plan) → weighed site n c x ≡ weighed site m c (pooled n kind x)
  carried_over c x =
      by_rows site n (length n.demands) n.arcs n-is.sources (λ i a. c a * x i a.site)
      ∙ sum_below_same (length n.demands) _ _ (λ i l. ap (λ arcs. sum_by (λ a. c a * x i a.site) arcs) (are.arcs i l))
      ∙ by_kinds (length m.demands) kind (λ k i. sum_by (λ a. c a * x i a.site) (links_of site m k)) (length n.demands)
      are.inside
      ∙ sum_below_same (length m.demands) _ _ (λ k l. sym (kind_sends c x (links_of site m k) k))
      ∙ sym (by_rows site m (length m.demands) m.arcs m-is.sources (λ k a. c a * pooled n kind x k a.site))

  -- the pooled plan has the same weighed sums as the plan of the sources
  pub pooled_alike : (x : Plan) → AreAlikeIn site n m x (pooled n kind x)
  pooled_alike x = alike_by site n m x (pooled n kind x) are.capacities are.host_of (λ c. carried_over c x)

  -- a term of a kind's sources, by what is known of them
  term : (f g : ℕ → ℕ) (k i : ℕ) → (kind i ≡ k → f i ≡ g i) → when (kind i == k) (f i) ≡ when (kind i == k) (g i)
  term f g k i same = grind arith

  -- a kind sends what its sources send
  pub kind_gets : (x : Plan) (k : ℕ)
      → sent m (planned site m (pooled n kind x)) k ≡ together n kind (λ i. sent n (planned site n x) i) k
  kind_gets x k =
      sent_is site m (pooled n kind x) k
      ∙ kind_sends (λ a. 1) x (links_of site m k) k
      ∙ sum_below_same (length n.demands) _ _ (λ i l.
      term (λ i. sum_by (λ a. 1 * x i a.site) (links_of site m k)) (λ i. sent n (planned site n x) i) k i
      (λ e.
      sym
      (sent_is site n x i
      ∙ ap (λ arcs. sum_by (λ a. 1 * x i a.site) arcs) (are.arcs i l ∙ ap (links_of site m) e))))

  -- a source may use what its kind may use
  pub allowed_alike : (i s : ℕ) → i < length n.demands → is_allowed site n i s ≡ is_allowed site m (kind i) s
  allowed_alike i s l =
      allowed_by site n n.arcs i s ∙ ap (λ arcs. list_any (λ a. a.site == s) arcs) (are.arcs i l)
      ∙ sym (allowed_by site m m.arcs (kind i) s)

  -- a feasible plan of sources is pooled to a feasible plan of kinds
  pub pool_feasible : (x : Plan) → Feasible site n x → Feasible site m (pooled n kind x)
  pool_feasible x feasible =
      let alike = pooled_alike x in
      record {
        allowed = λ k s no. sum_below_zero (length n.demands) _ (λ i l.
            term (λ i. x i s) (λ i. 0) k i
            (λ e. feasible.allowed i s (allowed_alike i s l ∙ ap (λ k. is_allowed site m k s) e ∙ no))
            ∙ when_zero (kind i == k));
        flow = record {
          met =
              λ k l. kind_gets x k
              ∙ sum_below_same (length n.demands) _ _ (λ i m. ap (λ v. when (kind i == k) v) (feasible.flow.met i m))
              ∙ sym (are.demands k l);
          within = within_alike n.capacities m.capacities _ _ are.capacities alike.load feasible.flow.within;
          hosted = within_alike n.limits m.limits _ _ are.limits alike.host_load feasible.flow.hosted;
        };
      }
