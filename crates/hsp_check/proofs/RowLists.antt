-- The arcs of rows, one row after another.
use Rattle.std.proofs.Common.{◌≡◌, ℕ, zero, suc, ◌+◌, ◌-◌, ◌<◌, ◌≤◌, ◌⊎◌, ◌∙◌, List, [], ◌∷◌, ◌++◌, Some, length, take}
use Rattle.std.proofs.Common.{map, slice_get, slice_index, slice_index_or, refl, ap, ap₂, sym, inl, inr, arith, add-one}
use Rattle.std.proofs.Common.{add-zero, zero-add, length-take-le, append_assoc, length-append}
use Rattle.std.proofs.lemmas.List.{append-nil, length-map, map-append, get_or_append_left, get_or-append_right}
use Rattle.std.proofs.lemmas.List.{get_or-map}
use Rattle.std.proofs.lemmas.Simd.{map-map}
use Rattle.std.proofs.lemmas.List.Elements.{All-from_recursion}
use Rattle.std.proofs.lemmas.Option.{slice_get_within, get_or_from_slice_get}
use Rattle.std.proofs.lemmas.Bool.{cases_lt}
use Rattle.hsp_instance.specs.declared.arc.Arc.{Arc}
use Rattle.hsp_instance.specs.Instance.{IsAscending}
use Rattle.hsp_check.specs.declared.arc.NetworkArc.{NetworkArc}
use Rattle.hsp_check.specs.declared.sums.ArcFlow.{ArcFlow}
use Rattle.hsp_check.specs.Instance.{arc_of, arcs_from}
use Rattle.hsp_check.specs.Index.{ByRow, IsIndexed, arc_at, flow_at, no_arc, bare_arc}

-- the arcs of one row more
pub arcs_more : (i k : ℕ) (lists : List (List Arc)) → k < length lists
    → arcs_from i (take (k + 1) lists) ≡ arcs_from i (take k lists) ++ map (arc_of (i + k)) (slice_index_or lists k [])
arcs_more i k [] l = absurd (omega arith)
arcs_more i zero (first ∷ rest) l = rw add-zero (append-nil (map (arc_of i) first))
arcs_more i (suc k) (first ∷ rest) l =
    let next : (i + 1) + k ≡ i + suc k = omega arith in
    let before : arcs_from (i + 1) (take (suc k) rest) ≡ arcs_from (i + 1) (take k rest)
    ++ map (arc_of (i + suc k)) (slice_index_or rest k []) =
    rw (next, add-one k) at (arcs_more (i + 1) k rest (omega arith)) in
    rw (add-one (suc k))
    (ap (λ xs. map (arc_of i) first ++ xs) before
    ∙ sym
    (append_assoc (map (arc_of i) first) (arcs_from (i + 1) (take k rest))
    (map (arc_of (i + suc k)) (slice_index_or rest k []))))

-- an arc that stands for none
no_row : Arc
no_row = record { site = 0; server = 0; cost = 0 }

abbrev site_at : List Arc → ℕ → ℕ
site_at arcs k = (slice_index_or arcs k no_row).site

-- later arcs of a row lead to later sites
ascending_sites : (arcs : List Arc) → IsAscending arcs → (a b : ℕ) → a < b → b < length arcs
    → site_at arcs a < site_at arcs b
ascending_sites [] up a b l m = absurd (omega arith)
ascending_sites (arc ∷ arcs) up a zero l m = absurd (omega arith)
ascending_sites (arc ∷ arcs) up zero (suc b) l m =
    All-from_recursion (λ (later : Arc). arc.site < later.site) arcs up.0 b no_row (omega arith)
ascending_sites (arc ∷ arcs) up (suc a) (suc b) l m = ascending_sites arcs up.1 a b (omega arith) (omega arith)

-- so two arcs to one site are one
one_site : (arcs : List Arc) → IsAscending arcs → (a b : ℕ) → a < length arcs → b < length arcs
    → site_at arcs a ≡ site_at arcs b → a ≡ b
one_site arcs up a b l m same = elim (cases_lt a b) [
  | inl less ↦ absurd (let n = ascending_sites arcs up a b less m in omega arith)
  | inr not-less ↦ elim (cases_lt b a) [
    | inl more ↦ absurd (let n = ascending_sites arcs up b a more l in omega arith)
    | inr not-more ↦ omega arith
  ]
]

module _ (n : ℕ) (arc_flows : List ArcFlow) (starts : List ℕ) (arcs : List Arc) (by : ByRow n arc_flows starts)
    (last : slice_index starts n ≡ length arc_flows) (up : IsAscending arcs) where
  abbrev more : List ArcFlow
  more = arc_flows ++ map (bare_arc n) arcs

  abbrev ends : List ℕ
  ends = starts ++ length more ∷ []

  -- there are as many arcs more as the row has
  many : length more ≡ length arc_flows + length arcs
  many = length-append arc_flows (map (bare_arc n) arcs) ∙ ap (λ k. length arc_flows + k) (length-map arcs (bare_arc n))

  -- the arcs of earlier rows stay
  old_arc : (k : ℕ) → k < length arc_flows → slice_index_or more k no_arc ≡ slice_index_or arc_flows k no_arc
  old_arc k l = get_or_append_left arc_flows (map (bare_arc n) arcs) no_arc k l

  -- behind them stand those of the row, without flow
  new_arc : (k : ℕ) → length arc_flows ≤ k → k < length more
      → slice_index_or more k no_arc ≡ bare_arc n (slice_index_or arcs (k - length arc_flows) no_row)
  new_arc k l m =
      get_or-append_right arc_flows (map (bare_arc n) arcs) (length arc_flows) k no_arc refl l
      ∙ get_or-map (bare_arc n) arcs (k - length arc_flows) no_row no_arc (omega (arith, many))

  -- the runs of earlier rows stay
  old_start : (i : ℕ) → i ≤ n → slice_index ends i ≡ slice_index starts i
  old_start i l = get_or_append_left starts (length more ∷ []) 0 i (omega (arith, by.starts_many))

  -- the run of the row ends with all arcs
  new_start : slice_index ends (n + 1) ≡ length more
  new_start =
      let at : n + 1 - (n + 1) ≡ 0 = omega arith in
      get_or-append_right starts (length more ∷ []) (n + 1) (n + 1) 0 by.starts_many (omega arith)
      ∙ ap (λ k. slice_index (length more ∷ []) k) at

  -- an arc of the rows before, or one of this row
  which : (k : ℕ) → k < length more →
      ((k < length arc_flows) × (arc_at more k ≡ arc_at arc_flows k))
      ⊎ ((length arc_flows ≤ k) × ((arc_at more k).row ≡ n)
      × ((arc_at more k).site ≡ site_at arcs (k - length arc_flows)))
  which k l = elim (cases_lt k (length arc_flows)) [
    | inl old ↦ inl (old, ap (λ (a : ArcFlow). a.arc) (old_arc k old))
    | inr new ↦ let e =
        new_arc k new l in inr (new, ap (λ (a : ArcFlow). a.arc.row) e, ap (λ (a : ArcFlow). a.arc.site) e)
  ]

  -- an arc that stays keeps its row
  row_of_old : (k : ℕ) → arc_at more k ≡ arc_at arc_flows k → (arc_at more k).row ≡ (arc_at arc_flows k).row
  row_of_old k e = ap (λ (a : NetworkArc). a.row) e

  -- an arc that stays keeps its site
  site_of_old : (k : ℕ) → arc_at more k ≡ arc_at arc_flows k → (arc_at more k).site ≡ (arc_at arc_flows k).site
  site_of_old k e = ap (λ (a : NetworkArc). a.site) e

  -- each run ends no earlier than it begins
  ordered : (i : ℕ) → i < n + 1 → slice_index ends i ≤ slice_index ends (i + 1)
  ordered i l = elim (cases_lt i n) [
    | inl less ↦ omega (arith, old_start i (omega arith), old_start (i + 1) (omega arith), by.ordered i less)
    | inr rest ↦ let e : i ≡ n = omega arith in rw e (omega (arith, old_start n (omega arith), new_start, last, many))
  ]

  -- each run ends within the arcs
  within : (i : ℕ) → i < n + 1 → slice_index ends (i + 1) ≤ length more
  within i l = elim (cases_lt i n) [
    | inl less ↦ omega (arith, old_start (i + 1) (omega arith), by.within i less, many)
    | inr rest ↦ let e : i ≡ n = omega arith in rw e (omega (arith, new_start))
  ]

  -- the arcs of a run are those of its row
  own : (i k : ℕ) → i < n + 1 → slice_index ends i ≤ k → k < slice_index ends (i + 1) → (arc_at more k).row ≡ i
  own i k l from upto = elim (cases_lt i n) [
    | inl less ↦
        let a = old_start i (omega arith) in
        let b = old_start (i + 1) (omega arith) in
        let w = by.within i less in
        ap (λ (a : ArcFlow). a.arc.row) (old_arc k (omega arith)) ∙ by.own i k less (omega arith) (omega arith)
    | inr rest ↦
        let e : i ≡ n = omega arith in
        let a : slice_index ends n ≤ k = omega (arith, ap (λ j. slice_index ends j) e) in
        let b : k < slice_index ends (n + 1) = omega (arith, ap (λ j. slice_index ends (j + 1)) e) in
        ap (λ (a : ArcFlow). a.arc.row)
        (new_arc k (omega (arith, old_start n (omega arith), last)) (omega (arith, new_start))) ∙ sym e
  ]

  -- each arc is of a row up to this one
  rows_in : (k : ℕ) → k < length more → (arc_at more k).row < n + 1
  rows_in k l = elim (which k l) [
    | inl old ↦ omega (arith, row_of_old k old.1, by.rows_in k old.0)
    | inr new ↦ omega (arith, new.1)
  ]

  -- an arc stands no earlier than its row's run begins
  from : (k : ℕ) → k < length more → slice_index ends (arc_at more k).row ≤ k
  from k l = elim (which k l) [
    | inl old ↦
        rw (row_of_old k old.1)
        (omega (arith, old_start (arc_at arc_flows k).row (omega (arith, by.rows_in k old.0)), by.from k old.0))
    | inr new ↦ rw new.1 (omega (arith, old_start n (omega arith), last, new.0))
  ]

  -- an arc stands before its row's run ends
  upto : (k : ℕ) → k < length more → k < slice_index ends ((arc_at more k).row + 1)
  upto k l = elim (which k l) [
    | inl old ↦
        rw (row_of_old k old.1)
        (omega (arith, old_start ((arc_at arc_flows k).row + 1) (omega (arith, by.rows_in k old.0)), by.upto k old.0))
    | inr new ↦ rw new.1 (omega (arith, new_start))
  ]

  -- two arcs of a row lead to different sites
  apart : (k m : ℕ) → k < length more → m < length more → (arc_at more k).row ≡ (arc_at more m).row
      → (arc_at more k).site ≡ (arc_at more m).site → k ≡ m
  apart k m l j row site = elim (which k l) [
    | inl a ↦ elim (which m j) [
      | inl b ↦
          by.apart k m a.0 b.0 (sym (row_of_old k a.1) ∙ row ∙ row_of_old m b.1)
          (sym (site_of_old k a.1) ∙ site ∙ site_of_old m b.1)
      | inr b ↦ absurd (omega (arith, row_of_old k a.1, by.rows_in k a.0, b.1, row))
    ]
    | inr a ↦ elim (which m j) [
      | inl b ↦ absurd (omega (arith, row_of_old m b.1, by.rows_in m b.0, a.1, row))
      | inr b ↦
          let same =
          one_site arcs up (k - length arc_flows) (m - length arc_flows) (omega (arith, many)) (omega (arith, many))
          (sym a.2 ∙ site ∙ b.2) in
          omega (arith, same, a.0, b.0)
    ]
  ]

  -- the arcs stand row by row, also with this one
  row_more : ByRow (n + 1) more ends
  row_more = record {
    starts_many = omega (arith, length-append starts (length more ∷ []), by.starts_many);
    ordered = ordered;
    within = within;
    own = own;
    rows_in = rows_in;
    from = from;
    upto = upto;
    apart = apart;
  }

  -- no arc has flow yet
  bare_more : ((k : ℕ) → k < length arc_flows → flow_at arc_flows k ≡ 0) → (k : ℕ) → k < length more
      → flow_at more k ≡ 0
  bare_more bare k l = elim (cases_lt k (length arc_flows)) [
    | inl old ↦ ap (λ (a : ArcFlow). a.flow) (old_arc k old) ∙ bare k old
    | inr new ↦ ap (λ (a : ArcFlow). a.flow) (new_arc k new l)
  ]

-- the lists of one row more
pub indexed_more : (lists : List (List Arc)) (n : ℕ) (arc_flows : List ArcFlow) (starts : List ℕ) (arcs : List Arc)
    → slice_get lists n ≡ Some arcs → IsAscending arcs → length arcs ≤ 32 →
    IsIndexed (take n lists) arc_flows starts
    → IsIndexed (take (n + 1) lists) (arc_flows ++ map (bare_arc n) arcs)
    (starts ++ length (arc_flows ++ map (bare_arc n) arcs) ∷ [])
indexed_more lists n arc_flows starts arcs there up few so_far =
    let inside = slice_get_within lists n arcs there in
    let now : length (take n lists) ≡ n = length-take-le n lists (omega arith) in
    let then : length (take (n + 1) lists) ≡ n + 1 = length-take-le (n + 1) lists (omega arith) in
    let by : ByRow n arc_flows starts = rw now at so_far.by_row in
    let last : slice_index starts n ≡ length arc_flows = rw now at so_far.last in
    let total : length (arc_flows ++ map (bare_arc n) arcs) ≡ length arc_flows + length arcs =
    many n arc_flows starts arcs by last up in
    let one : slice_index_or lists n [] ≡ arcs = get_or_from_slice_get lists n arcs [] there in
    let after : arcs_from 0 (take (n + 1) lists) ≡ arcs_from 0 (take n lists) ++ map (arc_of n) arcs =
    rw (zero-add n, one) at (arcs_more 0 n lists inside) in
    record {
      by_row = rw then (row_more n arc_flows starts arcs by last up);
      last = rw then (new_start n arc_flows starts arcs by last up);
      arcs =
          map-append (λ (l : ArcFlow). l.arc) arc_flows (map (bare_arc n) arcs)
          ∙ ap₂ (λ xs ys. xs ++ ys) so_far.arcs (map-map (λ (l : ArcFlow). l.arc) (bare_arc n) arcs) ∙ sym after;
      bare = bare_more n arc_flows starts arcs by last up so_far.bare;
      few = rw (then, total) (omega (arith, so_far.few, now));
    }
