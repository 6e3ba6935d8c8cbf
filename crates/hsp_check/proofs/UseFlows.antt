-- Uses added to the flows of their arcs, one a turn.
use Rattle.std.proofs.Common.{◌≡◌, ◌≢◌, ℕ, ◌+◌, ◌*◌, ◌<◌, ◌≤◌, ◌==◌, ◌∙◌, Bool, true, false, List, length, take}
use Rattle.std.proofs.Common.{slice_set, if◌then◌else◌, inl, inr, ap, sym, refl, arith, eq-eqb, eqb-true, ne_eqb}
use Rattle.std.proofs.Common.{get_or-set_same, get_or-set_other}
use Rattle.std.specs.Prelude.{◌&&◌}
use Rattle.std.proofs.lemmas.List.Sums.{sum_by_more}
use Rattle.std.proofs.lemmas.Bool.{cases_eq, cases_Bool, and_parts, and_from}
use Rattle.hsp_cert.specs.declared.use_line.UseLine.{UseLine}
use Rattle.hsp_check.specs.declared.sums.ArcFlow.{ArcFlow}
use Rattle.hsp_check.specs.Index.{ByRow, HasArc, arc_at, flow_at, no_arc, use_at}
use Rattle.hsp_check.specs.Uses.{table}

-- the arcs with more flow at one place
abbrev pub with_more : List ArcFlow → ℕ → ℕ → List ArcFlow
with_more arc_flows p n = slice_set arc_flows p (record { arc = arc_at arc_flows p; flow = flow_at arc_flows p + n })

-- adding flow leaves the arcs as they are
pub arc_kept : (arc_flows : List ArcFlow) (p n k : ℕ) → p < length arc_flows
    → arc_at (with_more arc_flows p n) k ≡ arc_at arc_flows k
arc_kept arc_flows p n k l = elim (cases_eq p k) [
  | inl same ↦
      rw (← same)
      (ap (λ (a : ArcFlow). a.arc)
      (get_or-set_same arc_flows p (record { arc = arc_at arc_flows p; flow = flow_at arc_flows p + n }) no_arc l))
  | inr other ↦ let apart : k ≢ p =
      λ q. other (sym q) in
      ap (λ (a : ArcFlow). a.arc)
      (get_or-set_other arc_flows p k (record { arc = arc_at arc_flows p; flow = flow_at arc_flows p + n }) no_arc
      apart)
]

-- only the arc that is used has more flow
pub flow_grown : (arc_flows : List ArcFlow) (p n k : ℕ) → p < length arc_flows
    → flow_at (with_more arc_flows p n) k ≡ flow_at arc_flows k + (if p == k then n else 0)
flow_grown arc_flows p n k l = elim (cases_eq p k) [
  | inl same ↦
      rw (eq-eqb p k same, ← same)
      (ap (λ (a : ArcFlow). a.flow)
      (get_or-set_same arc_flows p (record { arc = arc_at arc_flows p; flow = flow_at arc_flows p + n }) no_arc l))
  | inr other ↦
      let apart : k ≢ p = λ q. other (sym q) in
      let kept =
      ap (λ (a : ArcFlow). a.flow)
      (get_or-set_other arc_flows p k (record { arc = arc_at arc_flows p; flow = flow_at arc_flows p + n }) no_arc
      apart) in
      rw (ne_eqb p k other) (kept ∙ omega arith)
]

-- a test that holds just at the place
at_place : (p k n : ℕ) (b : Bool) → (p ≡ k → b ≡ true) → (b ≡ true → p ≡ k)
    → (if p == k then n else 0) ≡ (if b then n else 0)
at_place p k n b to from = elim (cases_Bool b) [
  | inl yes' ↦ rw (yes', eq-eqb p k (from yes')) refl
  | inr no' ↦ rw (no', ne_eqb p k (λ same. absurd (let both : true ≡ false = sym (to same) ∙ no' in cc))) refl
]

-- Before this turn the arcs have what the uses so far give them, and so they have after it.
pub record ArcFlows (first arc_flows : List ArcFlow) (uses : List UseLine) (i : ℕ) : Type 0 where
  pub arcs : (k : ℕ) → k < length arc_flows → arc_at arc_flows k ≡ arc_at first k
  pub flows : (k : ℕ) → k < length arc_flows
      → flow_at arc_flows k ≡ table (take i uses) (arc_at first k).row (arc_at first k).site
  pub small : (k : ℕ) → k < length arc_flows → flow_at arc_flows k ≤ i * 1000000
  pub each : (j : ℕ) → j < i → HasArc first (use_at uses j)

module _ (first arc_flows : List ArcFlow) (starts : List ℕ) (rows : ℕ) (uses : List UseLine) (i p : ℕ)
    (index : ByRow rows first starts) (many : length arc_flows ≡ length first)
    (inside : i < length uses) (so_far : ArcFlows first arc_flows uses i) (l : p < length arc_flows)
    (row : (arc_at arc_flows p).row ≡ (use_at uses i).row) (site : (arc_at arc_flows p).site ≡ (use_at uses i).site)
  where
    -- only the use's arc has its row and site
    told : (k : ℕ) → k < length arc_flows → (if p == k then (use_at uses i).count else 0)
        ≡ (if (use_at uses i).row == (arc_at first k).row && (use_at uses i).site == (arc_at first k).site
        then (use_at uses i).count else 0)
    told k m =
        let there = so_far.arcs p l in
        let its-row : (arc_at first p).row ≡ (use_at uses i).row = ap (λ (a : _). a.row) (sym there) ∙ row in
        let its-site : (arc_at first p).site ≡ (use_at uses i).site = ap (λ (a : _). a.site) (sym there) ∙ site in
        at_place p k (use_at uses i).count _
        (λ same.
        rw (← same)
        (and_from _ _ (eq-eqb (use_at uses i).row (arc_at first p).row (sym its-row))
        (eq-eqb (use_at uses i).site (arc_at first p).site (sym its-site))))
        (λ both.
        let parts =
        and_parts ((use_at uses i).row == (arc_at first k).row) ((use_at uses i).site == (arc_at first k).site)
        both in
        index.apart p k (omega arith) (omega arith)
        (its-row ∙ eqb-true (use_at uses i).row (arc_at first k).row parts.0)
        (its-site ∙ eqb-true (use_at uses i).site (arc_at first k).site parts.1))

    pub flow_more : (use_at uses i).count ≤ 1000000 → (k : ℕ) → k < length arc_flows →
        (arc_at (with_more arc_flows p (use_at uses i).count) k ≡ arc_at first k)
        × (flow_at (with_more arc_flows p (use_at uses i).count) k
        ≡ table (take (i + 1) uses) (arc_at first k).row (arc_at first k).site)
        × (flow_at (with_more arc_flows p (use_at uses i).count) k ≤ (i + 1) * 1000000)
    flow_more low k m =
        let grown = flow_grown arc_flows p (use_at uses i).count k l in
        let sum =
        sum_by_more
        (λ (u : UseLine). if u.row == (arc_at first k).row && u.site == (arc_at first k).site then u.count else 0)
        uses i (record { row = 0; site = 0; count = 0 }) inside in (
          arc_kept arc_flows p (use_at uses i).count k l ∙ so_far.arcs k m,
          grown ∙ ap (λ s. s + (if p == k then (use_at uses i).count else 0)) (so_far.flows k m)
              ∙ ap (λ s. table (take i uses) (arc_at first k).row (arc_at first k).site + s) (told k m) ∙ sym sum,
          rw grown
              (at_most (flow_at arc_flows k) (if p == k then (use_at uses i).count else 0) (so_far.small k m)
              (whether (p == k) low)),
        )
      where
        whether : (b : Bool) → (use_at uses i).count ≤ 1000000 → (if b then (use_at uses i).count else 0) ≤ 1000000
        whether true h = h
        whether false h = omega arith

        at_most : (x y : ℕ) → x ≤ i * 1000000 → y ≤ 1000000 → x + y ≤ (i + 1) * 1000000
        at_most x y a b = omega arith

    -- each use so far has an arc
    pub each_more : (j : ℕ) → j < i + 1 → HasArc first (use_at uses j)
    each_more j m = elim (cases_eq j i) [
      | inl same ↦
          rw same
          (record {
            place = p;
            inside = omega arith;
            row = ap (λ (a : _). a.row) (sym (so_far.arcs p l)) ∙ row;
            site = ap (λ (a : _). a.site) (sym (so_far.arcs p l)) ∙ site;
          })
      | inr other ↦ so_far.each j (omega arith)
    ]
