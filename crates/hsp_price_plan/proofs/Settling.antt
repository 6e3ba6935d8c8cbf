-- Rows of which no more arcs are kept stay as they are.
use Rattle.std.proofs.Common.{◌≡◌, ◌≤◌, ◌∙◌, ◌∷◌, ℕ, Bool, true, false, List, [], map, ap, arith, refl}
use Rattle.std.proofs.lemmas.List.Sums.{sum_by-cons}
use Rattle.std.specs.Prelude.{◌||◌, not, if◌then◌else◌}
use Rattle.std.specs.List.{list_all}
use Rattle.hsp_instance.specs.declared.arc.Arc.{Arc}
use Rattle.hsp_prices.specs.KeptRows.{KeptArc, KeptRow, arcs_in, kept_if, kept_in, keeping, loose_in, loose_of}
use Rattle.hsp_prices.specs.KeptRows.{with_leaving}
use Rattle.hsp_prices.specs.Least.{is_least}
use Rattle.hsp_price_check.specs.Extras.{pay_by}
use Rattle.hsp_transport.specs.Lists.{flag_at}
use Rattle.hsp_price_plan.specs.Entries.{loose_count}
use Rattle.hsp_price_plan.specs.Keeping.{is_near, kept_by}
use Rattle.hsp_price_plan.specs.declared.keeping.Keep.{Keep}
use Rattle.hsp_price_plan.specs.declared.keeping.Keep.TheVariants as keep
use Rattle.hsp_price_plan.proofs.KeptArcs.{one_loose}

-- what is kept stays kept, and where as much is loose as before nothing changed
pub record IsKeeping (f : KeptRow → KeptRow) : Type 0 where
  pub less : (row : KeptRow) → loose_in (f row) ≤ loose_in row
  pub settled : (row : KeptRow) → loose_in (f row) ≡ loose_in row → f row ≡ row

abbrev with_flag : Arc → Bool → KeptArc
with_flag arc kept = record { arc = arc; is_kept = kept }

abbrev count_loose : Bool → ℕ
count_loose kept = if kept then 0 else 1

-- an arc that may be kept counts no more
one_less : (was passes : Bool) → count_loose (was || passes) ≤ count_loose was
one_less true passes = omega arith
one_less false true = omega arith
one_less false false = omega arith

-- and where it counts the same it is as before
one_same : (was passes : Bool) → count_loose (was || passes) ≡ count_loose was → (was || passes) ≡ was
one_same true passes same = refl
one_same false true same = absurd (omega (arith, same))
one_same false false same = refl

-- with more arcs kept no more are loose
arcs_less : (test : Arc → Bool) (arcs : List KeptArc) → loose_count (map (kept_if test) arcs) ≤ loose_count arcs
arcs_less test [] = omega arith
arcs_less test (a ∷ arcs) =
    omega (
      arith,
      one_loose (kept_if test a) (map (kept_if test) arcs),
      one_loose a arcs,
      one_less a.is_kept (test a.arc),
      arcs_less test arcs,
    )

-- and where as many are loose the arcs are as before
arcs_settled : (test : Arc → Bool) (arcs : List KeptArc)
    → loose_count (map (kept_if test) arcs) ≡ loose_count arcs → map (kept_if test) arcs ≡ arcs
arcs_settled test [] same = refl
arcs_settled test (a ∷ arcs) same =
    let new = one_loose (kept_if test a) (map (kept_if test) arcs) in
    let old = one_loose a arcs in
    let one = one_less a.is_kept (test a.arc) in
    let rest = arcs_less test arcs in
    let first : count_loose (a.is_kept || test a.arc) ≡ count_loose a.is_kept =
    omega (arith, new, old, one, rest, same) in
    let later : loose_count (map (kept_if test) arcs) ≡ loose_count arcs = omega (arith, new, old, one, rest, same) in
    ap (λ kept. with_flag a.arc kept ∷ map (kept_if test) arcs) (one_same a.is_kept (test a.arc) first)
    ∙ ap (λ own. a ∷ own) (arcs_settled test arcs later)

abbrev with_arcs : KeptRow → List KeptArc → KeptRow
with_arcs row arcs = record { region = row.region; arcs = arcs; count = row.count }

-- to keep arcs by a test is such a change
pub keeping_keeps : (test : KeptRow → Arc → Bool) → IsKeeping (λ row. keeping (test row) row)
keeping_keeps test = record {
  less = λ row. arcs_less (test row) row.arcs;
  settled = λ row same. ap (with_arcs row) (arcs_settled (test row) row.arcs same);
}

-- so is to keep the leaving arcs
leaving_keeps : (set : ℕ → Bool) → IsKeeping (with_leaving set)
leaving_keeps set = record {
  less = λ row.
      elim (list_all (λ arc. set arc.server) (kept_in row)) as (λ b.
      loose_in (if b then keeping (λ arc. not (set arc.server)) row else row) ≤ loose_in row) [
        | true ↦ arcs_less (λ arc. not (set arc.server)) row.arcs
        | false ↦ omega arith
      ];
  settled = λ row.
      elim (list_all (λ arc. set arc.server) (kept_in row)) as (λ b.
      loose_in (if b then keeping (λ arc. not (set arc.server)) row else row) ≡ loose_in row
      → (if b then keeping (λ arc. not (set arc.server)) row else row) ≡ row) [
        | true ↦ λ same. ap (with_arcs row) (arcs_settled (λ arc. not (set arc.server)) row.arcs same)
        | false ↦ λ same. refl
      ];
}

-- and so is whatever is to be kept
pub all_keep : (which : Keep) → IsKeeping (kept_by which)
all_keep (keep.Least extras) = keeping_keeps (λ row. is_least (pay_by extras.now) (arcs_in row))
all_keep (keep.Near extras window) = keeping_keeps (λ row. is_near (pay_by extras.now) window (arcs_in row))
all_keep (keep.Leaving set) = leaving_keeps (flag_at set.now)

module _ (f : KeptRow → KeptRow) (keeps : IsKeeping f) where
  -- with more arcs kept no more are loose in all rows
  rows_less : (rows : List KeptRow) → loose_of (map f rows) ≤ loose_of rows
  rows_less [] = omega arith
  rows_less (row ∷ rows) =
      omega (
        arith,
        sum_by-cons loose_in (f row) (map f rows),
        sum_by-cons loose_in row rows,
        keeps.less row,
        rows_less rows,
      )

  -- and where as many are loose the rows are as before
  pub rows_settled : (rows : List KeptRow) → loose_of (map f rows) ≡ loose_of rows → map f rows ≡ rows
  rows_settled [] same = refl
  rows_settled (row ∷ rows) same =
      let new = sum_by-cons loose_in (f row) (map f rows) in
      let old = sum_by-cons loose_in row rows in
      let one = keeps.less row in
      let rest = rows_less rows in
      let first : loose_in (f row) ≡ loose_in row = omega (arith, new, old, one, rest, same) in
      let later : loose_of (map f rows) ≡ loose_of rows = omega (arith, new, old, one, rest, same) in
      ap (λ own. own ∷ map f rows) (keeps.settled row first) ∙ ap (λ own. row ∷ own) (rows_settled rows later)
