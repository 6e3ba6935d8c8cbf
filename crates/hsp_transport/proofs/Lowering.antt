-- A plan that sends too much, lowered to what is demanded.
use Rattle.std.proofs.Common.{◌≡◌, ℕ, ◌+◌, ◌<◌, ◌≤◌, ◌==◌, Bool, false, length, slice_index, slice_index_or, ◌∙◌, arith}
use Rattle.hsp_transport.specs.Network.{Network}
use Rattle.hsp_transport.specs.Flow.{host_load, load, sent}
use Rattle.hsp_transport.specs.Plans.{Feasible, Plan, Serves, is_allowed, planned}
use Rattle.hsp_transport.specs.Kinds.{HasOneArcASite, links_of}
use Rattle.hsp_transport.specs.Spread.{beside, sent_before}
use Rattle.hsp_transport.specs.Sums.{sum_below}
use Rattle.hsp_transport.proofs.Summing.{sum_below_le, sum_by_le_all}
use Rattle.hsp_transport.proofs.Rowwise.{allowed_by, when}
use Rattle.hsp_transport.proofs.Pooling.{sent_is}
use Rattle.hsp_transport.proofs.Spreading.{above, all_below, along_sites, over_sites}

-- a condition keeps the order of two numbers
no_more : (t : Bool) (v w : ℕ) → v ≤ w → when t v ≤ when t w
no_more t v w l = grind arith

module _ {A : Type 0} (site : A → ℕ) (n : Network A) (one : HasOneArcASite site n) (z : Plan) (serves : Serves site n z)
  where
    -- of what goes to the sites in turn, the first that are demanded
    abbrev pub lowered : Plan
    lowered i s = beside 0 (slice_index n.demands i) (sent_before z i s) (sent_before z i s + z i s)

    pub is_lower : (i s : ℕ) → lowered i s ≤ z i s
    is_lower i s = omega arith

    -- nothing goes where it may not
    none : (i s : ℕ) → is_allowed site n i s ≡ false → lowered i s ≡ 0
    none i s off = omega (arith, is_lower i s, serves.allowed i s off)

    -- what a source sends in all
    in_all : (x : Plan) → ((i s : ℕ) → is_allowed site n i s ≡ false → x i s ≡ 0) → (i : ℕ) → i < length n.demands →
        sent n (planned site n x) i ≡ sum_below (above site n.arcs) (x i)
    in_all x off i l =
        sent_is site n x i
        ∙ over_sites (links_of site n i) (above site n.arcs) (x i) (all_below site n n.arcs i) (λ s. one i s l)
        (λ s no. off i s (allowed_by site n n.arcs i s ∙ no))

    met : (i : ℕ) → i < length n.demands → sent n (planned site n lowered) i ≡ slice_index n.demands i
    met i l =
        let before = in_all z serves.allowed i l in
        let after = in_all lowered none i l in
        let along = along_sites (above site n.arcs) (z i) 0 (slice_index n.demands i) (omega arith) in
        omega (arith, before, after, along, serves.met i l)

    less_load : (j : ℕ) → load n (planned site n lowered) j ≤ load n (planned site n z) j
    less_load j =
        sum_by_le_all _ _ n.arcs
        (λ k d l. let a = slice_index_or n.arcs k d in
        no_more (n.server a == j) (planned site n lowered a) (planned site n z a) (is_lower (n.source a) (site a)))

    pub lowered_feasible : Feasible site n lowered
    lowered_feasible = record {
      allowed = none;
      flow = record {
        met = met;
        within = λ j l. omega (arith, less_load j, serves.within j l);
        hosted = λ h l.
            let less : host_load n (planned site n lowered) h ≤ host_load n (planned site n z) h =
            sum_below_le (length n.capacities) _ _
            (λ j m. no_more _ (load n (planned site n lowered) j) (load n (planned site n z) j) (less_load j)) in
            omega (arith, less, serves.hosted h l);
      };
    }
