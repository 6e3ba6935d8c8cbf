-- Uses, put down one a turn.
use Rattle.std.proofs.Common.{◌≡◌, ◌≢◌, ℕ, zero, suc, ◌+◌, ◌<◌, ◌≤◌, ◌∙◌, Bool, true, false, List, [], ◌∷◌, ◌++◌}
use Rattle.std.proofs.Common.{length, drop, slice_index, slice_index_or, map, if◌then◌else◌, refl, ap, sym, arith}
use Rattle.std.proofs.Common.{ne_eqb, append_assoc, length-append}
use Rattle.std.specs.Prelude.{Some, slice_get}
use Rattle.std.proofs.lemmas.List.{append-nil, drop_all, length-map}
use Rattle.std.proofs.lemmas.Option.{slice_get_within, get_or_from_slice_get}
use Rattle.hsp_cert.specs.declared.use_line.UseLine.{UseLine}
use Rattle.hsp_instance.specs.declared.arc.Arc.{Arc}
use Rattle.hsp_check.specs.declared.arc.NetworkArc.{NetworkArc}
use Rattle.hsp_check.specs.Instance.{arc_of, arcs_from}
use Rattle.hsp_flow.specs.Planning.{use_of, uses_of}

abbrev pub no_own : Arc
no_own = record { site = 0; server = 0; cost = 0 }

-- the list from a place on begins with what stands there
pub drop_at : {A : Type 0} (xs : List A) (k : ℕ) (d : A) → k < length xs
    → drop k xs ≡ slice_index_or xs k d ∷ drop (k + 1) xs
drop_at [] k d l = absurd (omega arith)
drop_at (x ∷ xs) zero d l = refl
drop_at (x ∷ xs) (suc k) d l =
    let more : suc k + 1 ≡ suc (k + 1) = omega arith in rw more (drop_at xs k d (omega arith))

-- the uses of arcs and of those behind them
uses_append : (xs ys : List NetworkArc) (fs gs : List ℕ) → length fs ≡ length xs
    → uses_of (xs ++ ys) (fs ++ gs) ≡ uses_of xs fs ++ uses_of ys gs
uses_append [] ys [] gs l = refl
uses_append [] ys (f ∷ fs) gs l = absurd (omega arith)
uses_append (x ∷ xs) ys [] gs l = absurd (omega arith)
uses_append (x ∷ xs) ys (f ∷ fs) gs l =
    ap (λ us. use_of x f ++ us) (uses_append xs ys fs gs (omega arith))
    ∙ sym (append_assoc (use_of x f) (uses_of xs fs) (uses_of ys gs))

module _ (row : ℕ) (arcs : List Arc) (flows : List ℕ) (k : ℕ) (l : k < length arcs) (m : k < length flows)
    (uses all : List UseLine)
    (so_far : uses ++ uses_of (map (arc_of row) (drop k arcs)) (drop k flows) ≡ all) where
  -- the use of one arc more is put down
  step : uses
      ++ (use_of (arc_of row (slice_index_or arcs k no_own)) (slice_index flows k)
      ++ uses_of (map (arc_of row) (drop (k + 1) arcs)) (drop (k + 1) flows)) ≡ all
  step = rw (drop_at arcs k no_own l, drop_at flows k 0 m) at so_far

  -- an arc with flow
  pub use_more : slice_index flows k ≢ 0 →
      (uses ++ record { row = row; site = (slice_index_or arcs k no_own).site; count = slice_index flows k } ∷ [])
      ++ uses_of (map (arc_of row) (drop (k + 1) arcs)) (drop (k + 1) flows) ≡ all
  use_more some =
      append_assoc uses
      (record { row = row; site = (slice_index_or arcs k no_own).site; count = slice_index flows k } ∷ [])
      (uses_of (map (arc_of row) (drop (k + 1) arcs)) (drop (k + 1) flows))
      ∙ rw (ne_eqb (slice_index flows k) 0 some) at step

  -- an arc without flow
  pub none_more : slice_index flows k ≡ 0
      → uses ++ uses_of (map (arc_of row) (drop (k + 1) arcs)) (drop (k + 1) flows) ≡ all
  none_more none = rw none at step

module _ (lists : List (List Arc)) (k : ℕ) (arcs : List Arc) (read : slice_get lists k ≡ Some arcs) where
  -- the arcs of a row and of those behind it
  whole : arcs_from k (drop k lists) ≡ map (arc_of k) arcs ++ arcs_from (k + 1) (drop (k + 1) lists)
  whole =
      ap (arcs_from k)
      (drop_at lists k [] (slice_get_within lists k arcs read)
      ∙ ap (λ (xs : List Arc). xs ∷ drop (k + 1) lists) (get_or_from_slice_get lists k arcs [] read))

  -- how many there are
  pub row_many : length (arcs_from k (drop k lists)) ≡ length arcs + length (arcs_from (k + 1) (drop (k + 1) lists))
  row_many =
      omega (
        arith,
        ap (λ (xs : List NetworkArc). length xs) whole,
        length-append (map (arc_of k) arcs) (arcs_from (k + 1) (drop (k + 1) lists)),
        length-map arcs (arc_of k),
      )

  -- the uses of a row
  pub row_more : (uses all : List UseLine) (flows own rest : List ℕ) → flows ≡ own ++ rest → length own ≡ length arcs
      → uses ++ uses_of (arcs_from k (drop k lists)) flows ≡ all →
      (uses ++ uses_of (map (arc_of k) arcs) own) ++ uses_of (arcs_from (k + 1) (drop (k + 1) lists)) rest ≡ all
  row_more uses all flows own rest parts many so_far =
      append_assoc uses (uses_of (map (arc_of k) arcs) own) (uses_of (arcs_from (k + 1) (drop (k + 1) lists)) rest)
      ∙ ap (λ us. uses ++ us)
      (sym
      (uses_append (map (arc_of k) arcs) (arcs_from (k + 1) (drop (k + 1) lists)) own rest
      (omega (arith, many, length-map arcs (arc_of k)))))
      ∙ ap (λ (xs : List NetworkArc). uses ++ uses_of xs (own ++ rest)) (sym whole)
      ∙ ap (λ (fs : List ℕ). uses ++ uses_of (arcs_from k (drop k lists)) fs) (sym parts)
      ∙ so_far

-- no row is left
pub rows_done : (lists : List (List Arc)) (k : ℕ) → length lists ≤ k → (uses all : List UseLine) (flows : List ℕ)
    → uses ++ uses_of (arcs_from k (drop k lists)) flows ≡ all → uses ≡ all
rows_done lists k past uses all flows so_far =
    let none : uses_of (arcs_from k (drop k lists)) flows ≡ [] =
    ap (λ (xs : List (List Arc)). uses_of (arcs_from k xs) flows) (drop_all k lists past) in
    sym (append-nil uses) ∙ ap (λ us. uses ++ us) (sym none) ∙ so_far
