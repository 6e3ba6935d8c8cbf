-- What is known of the arcs once the uses are written.
use Rattle.std.proofs.Common.{◌≡◌, ℕ, ◌<◌, ◌==◌, ◌∙◌, true, List, length, take, drop, map, All, ◌++◌, ap, sym, arith}
use Rattle.std.proofs.Common.{eq-eqb, eqb-true, take_all}
use Rattle.std.specs.Prelude.{◌&&◌}
use Rattle.std.proofs.Math.ListN.{get_or-map as get_or_of_map}
use Rattle.std.proofs.lemmas.List.{ext_get_or, get_or-map, length-map, take-append-le}
use Rattle.std.proofs.lemmas.List.Elements.{All-from_get_or}
use Rattle.std.proofs.lemmas.List.Folds.{list_any_at, Any-from_list_any}
use Rattle.std.proofs.lemmas.Bool.{and_parts, and_from}
use Rattle.hsp_cert.specs.declared.use_line.UseLine.{UseLine}
use Rattle.hsp_check.specs.declared.arc.NetworkArc.{NetworkArc}
use Rattle.hsp_check.specs.declared.sums.ArcFlow.{ArcFlow}
use Rattle.hsp_check.specs.Plan.{planned}
use Rattle.hsp_check.specs.Index.{HasArc, arc_at, flow_at, has_arc, no_arc, use_at}
use Rattle.hsp_check.specs.ArcFlows.{AreArcFlows}
use Rattle.hsp_check.specs.Uses.{table}

-- a slice that was lent whole is what was written
pub written : {A : Type 0} (n : ℕ) (new old : List A) → length new ≡ length old → n ≡ length old
    → take n (new ++ drop (length new) old) ≡ new
written n new old same many = take-append-le n new (drop (length new) old) (omega arith) ∙ take_all n new (omega arith)

-- the flow of each arc is what the uses give it
pub arc_flows_made : (first arc_flows : List ArcFlow) (uses : List UseLine) → length arc_flows ≡ length first
    → ((k : ℕ) → k < length first → arc_at arc_flows k ≡ arc_at first k) →
    ((k : ℕ) → k < length first → flow_at arc_flows k ≡ table uses (arc_at first k).row (arc_at first k).site)
    → AreArcFlows (map (λ l. l.arc) first) (table uses) arc_flows
arc_flows_made first arc_flows uses many arcs flows = record {
  arcs_are =
      ext_get_or no_arc.arc (map (λ (l : ArcFlow). l.arc) arc_flows) (map (λ (l : ArcFlow). l.arc) first)
      (rw (length-map arc_flows (λ (l : ArcFlow). l.arc), length-map first (λ (l : ArcFlow). l.arc)) many)
      (λ k l.
      let inside : k < length first = omega (arith, length-map arc_flows (λ (l : ArcFlow). l.arc)) in
      get_or_of_map (λ (l : ArcFlow). l.arc) arc_flows k no_arc ∙ arcs k inside
      ∙ sym (get_or_of_map (λ (l : ArcFlow). l.arc) first k no_arc));
  flows_are =
      All-from_get_or (λ (l : ArcFlow). l.flow ≡ planned (table uses) l.arc) arc_flows no_arc
      (λ k l. let inside : k < length first = omega arith in
      flows k inside ∙ ap (λ a. planned (table uses) a) (sym (arcs k inside)));
}

-- a use of an arc that is there passes the test
arc_tested : (first : List ArcFlow) (one : UseLine) → HasArc first one → has_arc first one ≡ true
arc_tested first one has =
    let inside : has.place < length (map (λ (l : ArcFlow). l.arc) first) =
    rw (length-map first (λ (l : ArcFlow). l.arc)) has.inside in
    let there = get_or_of_map (λ (l : ArcFlow). l.arc) first has.place no_arc in
    list_any_at (λ (a : NetworkArc). a.row == one.row && a.site == one.site) (map (λ (l : ArcFlow). l.arc) first)
    has.place no_arc.arc inside
    (rw there (and_from _ _ (eq-eqb _ _ has.row) (eq-eqb _ _ has.site)))

-- a use that passes the test is of an arc that is there
arc_found : (first : List ArcFlow) (one : UseLine) → has_arc first one ≡ true → HasArc first one
arc_found first one test =
    let found =
    Any-from_list_any (λ (a : NetworkArc). a.row == one.row && a.site == one.site)
    (map (λ (l : ArcFlow). l.arc) first) test in
    let inside : found.0 < length first = rw (length-map first (λ (l : ArcFlow). l.arc)) at found.2 in
    let there : arc_at first found.0 ≡ found.1 =
    sym (get_or-map (λ (l : ArcFlow). l.arc) first found.0 no_arc found.1 inside) ∙ found.3 in
    let parts = and_parts (found.1.row == one.row) (found.1.site == one.site) found.4 in
    record {
      place = found.0;
      inside = inside;
      row = ap (λ (a : NetworkArc). a.row) there ∙ eqb-true _ _ parts.0;
      site = ap (λ (a : NetworkArc). a.site) there ∙ eqb-true _ _ parts.1;
    }

-- where each use has its arc, all pass
pub all_tested : (first : List ArcFlow) (uses : List UseLine)
    → ((i : ℕ) → i < length uses → HasArc first (use_at uses i)) → All (λ u. has_arc first u ≡ true) uses
all_tested first uses each =
    All-from_get_or (λ u. has_arc first u ≡ true) uses (record { row = 0; site = 0; count = 0 })
    (λ i l. arc_tested first (use_at uses i) (each i l))

-- where one use has none, not all pass
pub one_lost : (first : List ArcFlow) (uses : List UseLine) (i : ℕ) → i < length uses
    → (HasArc first (use_at uses i) → ⊥) → All (λ u. has_arc first u ≡ true) uses → ⊥
one_lost first uses i l lost all =
    lost (arc_found first (use_at uses i) (all i (record { row = 0; site = 0; count = 0 }) l))
