-- The plan that is made from a flow gives each arc what flows on it, and nothing to a pair that no arc joins.
use Rattle.std.proofs.Common.{◌≡◌, ℕ, ◌+◌, ◌<◌, ◌==◌, ◌∙◌, Bool, true, false, List, [], ◌∷◌, length}
use Rattle.std.proofs.Common.{slice_index, slice_index_or, if◌then◌else◌, refl, ap₂, sym, inl, inr, arith, eq-eqb}
use Rattle.std.proofs.Common.{eqb-true, ne_eqb}
use Rattle.std.specs.Prelude.{◌&&◌}
use Rattle.std.specs.List.{list_any}
use Rattle.std.proofs.lemmas.List.Sums.{sum_by-cons, sum_by-append}
use Rattle.std.proofs.lemmas.List.Folds.{list_any_at}
use Rattle.std.proofs.lemmas.Bool.{cases_eq, cases_Bool, and_parts, and_from}
use Rattle.hsp_cert.specs.declared.use_line.UseLine.{UseLine}
use Rattle.hsp_check.specs.declared.arc.NetworkArc.{NetworkArc}
use Rattle.hsp_check.specs.Uses.{table}
use Rattle.hsp_transport.proofs.Summing.{sum_below_zero, sum_below_one, sum_below_first}
use Rattle.hsp_network.specs.Sums.{sum_below}
use Rattle.hsp_flow.specs.Ordered.{AreOrdered}
use Rattle.hsp_flow.specs.Planning.{use_of, uses_of}
use Rattle.hsp_flow.proofs.Ordering.{no_arc, one_place}

abbrev pub arc : List NetworkArc → ℕ → NetworkArc
arc arcs k = slice_index_or arcs k no_arc

-- whether the arc leads from the row to the site
abbrev pub leads : ℕ → ℕ → NetworkArc → Bool
leads i s a = a.row == i && a.site == s

-- a number is itself under a condition, either way
same_twice : (b : Bool) (n : ℕ) → n ≡ (if b then n else n)
same_twice true n = refl
same_twice false n = refl

-- the use of an arc gives its flow where the arc leads, and nothing elsewhere
one_use : (a : NetworkArc) (flow i s : ℕ) → table (use_of a flow) i s ≡ (if leads i s a then flow else 0)
one_use a flow i s = elim (cases_eq flow 0) [
  | inl none ↦ rw none (same_twice (leads i s a) 0)
  | inr some ↦
      rw (ne_eqb flow 0 some)
      (sum_by-cons (λ (u : UseLine). if u.row == i && u.site == s then u.count else 0)
      (record { row = a.row; site = a.site; count = flow }) [] ∙ omega arith)
]

-- what the uses give a row and a site
pub table_is : (arcs : List NetworkArc) (flows : List ℕ) (i s : ℕ) → length flows ≡ length arcs →
    table (uses_of arcs flows) i s
    ≡ sum_below (length arcs) (λ k. if leads i s (arc arcs k) then slice_index flows k else 0)
table_is [] flows i s many = refl
table_is (a ∷ arcs) [] i s many = absurd (omega arith)
table_is (a ∷ arcs) (flow ∷ flows) i s many =
    let g = λ (u : UseLine). if u.row == i && u.site == s then u.count else 0 in
    sum_by-append g (use_of a flow) (uses_of arcs flows)
    ∙ ap₂ (λ m n. m + n) (one_use a flow i s) (table_is arcs flows i s (omega arith))
    ∙ sym
    (sum_below_first (length arcs) (λ k. if leads i s (arc (a ∷ arcs) k) then slice_index (flow ∷ flows) k else 0))

module _ (arcs : List NetworkArc) (flows : List ℕ) (many : length flows ≡ length arcs) where
  -- a pair that no arc joins gets nothing
  pub none_planned : (i s : ℕ) → list_any (leads i s) arcs ≡ false → table (uses_of arcs flows) i s ≡ 0
  none_planned i s none =
      table_is arcs flows i s many ∙ sum_below_zero (length arcs) _ (λ k l. elim (cases_Bool (leads i s (arc arcs k))) [
        | inl yes' ↦
            absurd (let met : list_any (leads i s) arcs ≡ true = list_any_at (leads i s) arcs k no_arc l yes' in cc)
        | inr no' ↦ rw no' refl
      ])

  -- an arc gets its flow
  pub planned_is : AreOrdered arcs → (k : ℕ) → k < length arcs
      → table (uses_of arcs flows) (arc arcs k).row (arc arcs k).site ≡ slice_index flows k
  planned_is ordered k l =
      let i = (arc arcs k).row in
      let s = (arc arcs k).site in
      let here : leads i s (arc arcs k) ≡ true = and_from _ _ (eq-eqb i i refl) (eq-eqb s s refl) in
      table_is arcs flows i s many
      ∙ sum_below_one (length arcs) (λ m. if leads i s (arc arcs m) then slice_index flows m else 0) k l
      (λ m n other. elim (cases_Bool (leads i s (arc arcs m))) [
        | inl yes' ↦
            let b = and_parts ((arc arcs m).row == i) ((arc arcs m).site == s) yes' in
            absurd
            (other
            (one_place arcs ordered m k n l (eqb-true (arc arcs m).row i b.0) (eqb-true (arc arcs m).site s b.1)))
        | inr no' ↦ rw no' refl
      ])
      ∙ rw here refl
