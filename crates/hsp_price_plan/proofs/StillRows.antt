-- Rows are those that they were, whichever of their arcs are kept.
use Rattle.std.proofs.Common.{◌≡◌, ◌∙◌, ◌∷◌, ℕ, Bool, true, false, List, [], map, ap, refl}
use Rattle.std.specs.Prelude.{not, if◌then◌else◌}
use Rattle.std.specs.List.{AllZip, list_all}
use Rattle.hsp_instance.specs.Instance.{Row}
use Rattle.hsp_instance.specs.declared.arc.Arc.{Arc}
use Rattle.hsp_prices.specs.Rows.{Service}
use Rattle.hsp_prices.specs.Least.{is_least}
use Rattle.hsp_prices.specs.KeptRows.{IsRow, KeptArc, KeptRow, arcs_in, kept_if, kept_in, keeping, with_least}
use Rattle.hsp_prices.specs.KeptRows.{with_leaving}
use Rattle.hsp_price_plan.specs.Keeping.{is_near, with_near}

-- a change of a row leaves all but what is kept
pub record LeavesRows (f : KeptRow → KeptRow) : Type 0 where
  pub region : (row : KeptRow) → (f row).region ≡ row.region
  pub arcs : (row : KeptRow) → arcs_in (f row) ≡ arcs_in row
  pub count : (row : KeptRow) → (f row).count ≡ row.count

-- arcs stay, whichever are kept
same_arcs : (test : Arc → Bool) (arcs : List KeptArc)
    → map (λ (a : KeptArc). a.arc) (map (kept_if test) arcs) ≡ map (λ (a : KeptArc). a.arc) arcs
same_arcs test [] = refl
same_arcs test (a ∷ arcs) = ap (λ rest. a.arc ∷ rest) (same_arcs test arcs)

-- to keep arcs by a test is such a change
pub keeping_leaves : (test : KeptRow → Arc → Bool) → LeavesRows (λ row. keeping (test row) row)
keeping_leaves test = record {
  region = λ row. refl;
  arcs = λ row. same_arcs (test row) row.arcs;
  count = λ row. refl;
}

-- so is to keep the least arcs
pub least_leaves : (pay : Arc → ℕ) → LeavesRows (with_least pay)
least_leaves pay = keeping_leaves (λ row. is_least pay (arcs_in row))

-- to keep the near ones
pub near_leaves : (pay : Arc → ℕ) (window : ℕ) → LeavesRows (with_near pay window)
near_leaves pay window = keeping_leaves (λ row. is_near pay window (arcs_in row))

-- and to keep the leaving ones
pub leaving_leaves : (set : ℕ → Bool) → LeavesRows (with_leaving set)
leaving_leaves set = record {
  region = λ row.
      elim (list_all (λ arc. set arc.server) (kept_in row)) as (λ b.
      (if b then keeping (λ arc. not (set arc.server)) row else row).region ≡ row.region) [
        | true ↦ refl
        | false ↦ refl
      ];
  arcs = λ row.
      elim (list_all (λ arc. set arc.server) (kept_in row)) as (λ b.
      arcs_in (if b then keeping (λ arc. not (set arc.server)) row else row) ≡ arcs_in row) [
        | true ↦ same_arcs (λ arc. not (set arc.server)) row.arcs
        | false ↦ refl
      ];
  count = λ row.
      elim (list_all (λ arc. set arc.server) (kept_in row)) as (λ b.
      (if b then keeping (λ arc. not (set arc.server)) row else row).count ≡ row.count) [
        | true ↦ refl
        | false ↦ refl
      ];
}

module _ (f : KeptRow → KeptRow) (leaves : LeavesRows f) where
  -- so rows of a service are still those
  pub still_rows : (at : Service) (rows : List Row) (kept : List KeptRow) → AllZip (IsRow at) rows kept
      → AllZip (IsRow at) rows (map f kept)
  still_rows at [] [] all = all
  still_rows at [] (own ∷ kept) all = all
  still_rows at (row ∷ rows) [] all = all
  still_rows at (row ∷ rows) (own ∷ kept) all =
      let is = all.0 in (
        record {
          region = leaves.region own ∙ is.region;
          arcs = leaves.arcs own ∙ is.arcs;
          count = leaves.count own ∙ is.count;
        },
        still_rows at rows kept all.1,
      )
