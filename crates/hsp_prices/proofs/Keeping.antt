-- Plans, prices and short sets over some of the arcs.
use Rattle.std.proofs.Common.{◌≡◌, ℕ, ◌+◌, ◌*◌, ◌<◌, ◌≤◌, ◌==◌, ◌∙◌, Bool, true, false, List, [], ◌∷◌, length, filter}
use Rattle.std.proofs.Common.{sum_by, if◌then◌else◌, refl, ap, sym, arith}
use Rattle.std.proofs.Common.{mul-zero, one-mul, zero-add}
use Rattle.std.specs.Prelude.{◌&&◌}
use Rattle.std.specs.List.{list_any}
use Rattle.std.proofs.lemmas.List.Elements.{All-filter}
use Rattle.std.proofs.lemmas.List.Sums.{sum_by-cons}
use Rattle.hsp_transport.specs.Cut.{reached_capacity}
use Rattle.hsp_transport.specs.Sums.{times}
use Rattle.hsp_transport.proofs.Summing.{sum_below_same}
use Rattle.hsp_check.specs.declared.arc.NetworkArc.{NetworkArc}
use Rattle.hsp_check.specs.Network.{Network, IsNetwork, transport}
use Rattle.hsp_check.specs.Plan.{Plan, Feasible, host_load, is_on, load, planned, total}
use Rattle.hsp_check.specs.Short.{reaches}
use Rattle.hsp_check.proofs.Duality.{prices_show_best}
use Rattle.hsp_prices.specs.Bounds.{HasNoNegativeReducedCost}
use Rattle.hsp_prices.specs.Classes.{Keep}
use Rattle.hsp_prices.specs.Kept.{kept, KeptPlansAreBest, KeptShortSetsAreShort}
use Rattle.hsp_prices.proofs.Bounding.{bound}
use Rattle.hsp_prices.proofs.Catching.{less_room, stays}

-- a sum over the elements that pass is that over all, where the others add nothing
sum_kept : {A : Type 0} (keep : A → Bool) (f : A → ℕ) → ((a : A) → keep a ≡ false → f a ≡ 0)
    → (xs : List A) → sum_by f (filter keep xs) ≡ sum_by f xs
sum_kept keep f out [] = refl
sum_kept keep f out (x ∷ xs) = one (keep x) refl (sum_kept keep f out xs)
  where
    one : (t : Bool) → keep x ≡ t → sum_by f (filter keep xs) ≡ sum_by f xs
        → sum_by f (filter keep (x ∷ xs)) ≡ sum_by f (x ∷ xs)
    one true e rest =
        rw e (sum_by-cons f x (filter keep xs) ∙ ap (λ s. f x + s) rest ∙ sym (sum_by-cons f x xs))
    one false e rest =
        rw e (rest ∙ sym (sum_by-cons f x xs ∙ ap (λ s. s + sum_by f xs) (out x e) ∙ zero-add (sum_by f xs)))

-- what no element passes no kept element passes
fewer : {A : Type 0} (test keep : A → Bool) (xs : List A) → list_any test xs ≡ false
    → list_any test (filter keep xs) ≡ false
fewer test keep [] e = refl
fewer test keep (x ∷ rest) e = grind (arith, fewer test keep rest)

-- a site that a row doesn't keep is none of its kept arcs'
not_kept : (keep : Keep) (i s : ℕ) → keep i s ≡ false → (arcs : List NetworkArc)
    → list_any (λ (a : NetworkArc). a.row == i && a.site == s)
    (filter (λ (a : NetworkArc). keep a.row a.site) arcs) ≡ false
not_kept keep i s e [] = refl
not_kept keep i s e (a ∷ rest) = grind (arith, e, not_kept keep i s e rest, other)
  where
    other : a.row ≡ i → a.site ≡ s → keep a.row a.site ≡ false
    other r t = rw (r, t) e

module _ (n : Network) (keep : Keep) where
  abbrev pub keeps : NetworkArc → Bool
  keeps a = keep a.row a.site

  -- the network of the kept arcs is one
  pub network_kept : IsNetwork n → IsNetwork (kept n keep)
  network_kept is = record {
    sources = All-filter keeps (λ a. a.row < length n.demands) n.arcs is.sources;
    servers = All-filter keeps (λ a. a.server < length n.capacities) n.arcs is.servers;
    hosts = is.hosts;
  }

  module _ (x : Plan) (feasible : Feasible (kept n keep) x) where
    -- nothing is planned on the other arcs
    out : (a : NetworkArc) → keeps a ≡ false → planned x a ≡ 0
    out a e = feasible.allowed a.row a.site (not_kept keep a.row a.site e n.arcs)

    -- so what is counted over the kept arcs is what is counted over all
    by_test : (test : NetworkArc → Bool) → sum_by (λ a. if test a then planned x a else 0) (filter keeps n.arcs)
        ≡ sum_by (λ a. if test a then planned x a else 0) n.arcs
    by_test test = sum_kept keeps _ (λ a e. nothing (test a) (out a e)) n.arcs
      where
        nothing : (t : Bool) → {v : ℕ} → v ≡ 0 → (if t then v else 0) ≡ 0
        nothing true e = e
        nothing false e = refl

    -- so is a server's load
    pub load_kept : (j : ℕ) → load (kept n keep) x j ≡ load n x j
    load_kept j = by_test (λ a. a.server == j)

    -- and a host's
    pub host_kept : (h : ℕ) → host_load (kept n keep) x h ≡ host_load n x h
    host_kept h =
        sum_below_same (length n.capacities) _ _ (λ j l. ap (λ v. if is_on (n.host_of j) h then v else 0) (load_kept j))

    -- and the cost
    pub cost_kept : total (kept n keep) x ≡ total n x
    cost_kept =
        sum_kept keeps (λ a. a.cost * planned x a) (λ a e. ap (λ v. a.cost * v) (out a e) ∙ mul-zero a.cost) n.arcs

    -- and the plan is one over all arcs
    pub feasible_kept : Feasible n x
    feasible_kept = record {
      allowed = λ i s none. feasible.allowed i s (fewer (λ a. a.row == i && a.site == s) keeps n.arcs none);
      flow =
          record {
            met = λ i l. sym (by_test (λ a. a.row == i)) ∙ feasible.flow.met i l;
            within = λ j l. rw (← load_kept j) (feasible.flow.within j l);
            hosted = λ h l. rw (← host_kept h) (feasible.flow.hosted h l);
          };
    }

    -- its cost is the least where it is what the rows pay but for what full servers and hosts take
    pub least : IsNetwork n → (u p q : List ℕ) → HasNoNegativeReducedCost n 1 u p q
        → times n.demands u ≡ total n x + times n.capacities p + times n.limits q
        → (y : Plan) → Feasible n y → total n x ≤ total n y
    least is u p q reduced sums y other = omega (arith, bound n 1 u p q is reduced y other, one-mul (total n y))

-- plans over kept arcs are best
pub kept_plans_are_best : KeptPlansAreBest
kept_plans_are_best n keep x u p q is feasible prices reduced =
    let own = prices_show_best (kept n keep) x u p q (network_kept n keep is) feasible prices in
    let cost = cost_kept n keep x feasible in
    let sums : times n.demands u ≡ total n x + times n.capacities p + times n.limits q = omega (arith, own.1) in (
      record { feasible = feasible_kept n keep x feasible; least = least n keep x feasible is u p q reduced sums },
      sym cost,
    )

-- short sets over kept arcs are short
pub kept_short_sets_are_short : KeptShortSetsAreShort
kept_short_sets_are_short n keep rows more inside =
    omega (
      arith,
      less_room n (reached_capacity (transport n) rows)
          (reached_capacity (transport (kept n keep)) rows)
          (λ j. grind (arith, stays rows (reaches (kept n keep) rows) n.arcs inside j)),
    )
