-- The regions of rows, each at its number, and what the rows of each of them have together.
use Rattle.std.proofs.Common.{◌≡◌, ◌∙◌, ◌≤◌, ◌+◌, ◌⊎◌, ℕ, zero, suc, Bool, true, false, List, [], ◌∷◌, ◌++◌, Some}
use Rattle.std.proofs.Common.{length, map, inl, inr, ap, sym, refl, arith, length-append}
use Rattle.std.specs.Prelude.{◌==◌, if◌then◌else◌}
use Rattle.std.specs.List.{IsDistinct, list_any, slice_get}
use Rattle.std.specs.Str.{bytes_eq}
use Rattle.std.specs.Cmp.Lexicographic.{bytes_decides}
use Rattle.std.proofs.lemmas.Bool.{cases_eq, eq-eqb, false_from_ne_true, false≢true, ne_eqb}
use Rattle.std.proofs.lemmas.List.Sums.{sum_by-cons, sum_by_push}
use Rattle.std.proofs.lemmas.Option.{slice_get_within}
use Rattle.hsp_tables.proofs.SeenNames.{seen_among, seen_apart}
use Rattle.hsp_instance.specs.Instance.{Row, regions_of}
use Rattle.hsp_instance.specs.RowArcs.{with_region}
use Rattle.hsp_instance.proofs.Lists.{one_place, pushed_at}
use Rattle.hsp_price_check.proofs.KindCounts.{region_added}
use Rattle.hsp_price_check.specs.Passed.{capped}
use Rattle.hsp_price_check.specs.Regions.{rows_sum}
use Rattle.hsp_price_check.proofs.SumSteps.{capped_where}

-- ---- places

-- what stands at a place after a name was seen stood there before, or is the name, which was new
pub placed_before : (names : List (List ℕ)) (name other : List ℕ) (k : ℕ) (there : Bool)
    → list_any (bytes_eq name) names ≡ there → slice_get (if there then names else names ++ name ∷ []) k ≡ Some other
    → (slice_get names k ≡ Some other) ⊎ ((k ≡ length names) × (other ≡ name) × (there ≡ false))
placed_before names name other k true is at = inl at
placed_before names name other k false is at =
    elim (pushed_at names name k other at) [ inl here ↦ inl here | inr last ↦ inr (last.0, last.1, refl) ]

-- a name that stands at a place is among the names
pub among_at : (names : List (List ℕ)) (name : List ℕ) (k : ℕ) → slice_get names k ≡ Some name
    → list_any (bytes_eq name) names ≡ true
among_at [] name k at = grind arith
among_at (n ∷ names) name zero at = grind (arith, bytes_decides name n)
among_at (n ∷ names) name (suc k) at = grind (arith, among_at names name k at)

-- a place after a name was seen is at most one past the places before
pub place_low : (names : List (List ℕ)) (name other : List ℕ) (k : ℕ)
    → slice_get (with_region names name) k ≡ Some other → k ≤ length names
place_low names name other k at =
    elim (placed_before names name other k (list_any (bytes_eq name) names) refl at) [
      | inl here ↦ (let within = slice_get_within names k other here in omega (arith, within))
      | inr last ↦ omega (arith, last.0)
    ]

-- there is one place more where the name stands past the places before
pub places_many : (names : List (List ℕ)) (name : List ℕ) (k : ℕ) (there : Bool)
    → list_any (bytes_eq name) names ≡ there → slice_get (if there then names else names ++ name ∷ []) k ≡ Some name
    → length (if there then names else names ++ name ∷ [])
    ≡ (if k == length names then length names + 1 else length names)
places_many names name k true is at =
    let within = slice_get_within names k name at in
    rw (ne_eqb k (length names) (λ same. omega (arith, within, same))) refl
places_many names name k false is at =
    elim (placed_before names name name k false is at) [
      | inl here ↦ absurd (false≢true (sym is ∙ among_at names name k here))
      | inr last ↦ rw (eq-eqb k (length names) last.0) (length-append names (name ∷ []))
    ]

-- ---- the regions of rows

-- each region of rows has one place
regions_apart : (rows : List Row) → IsDistinct bytes_eq (regions_of rows)
regions_apart rows = seen_apart (map (λ (r : Row). r.region) rows)

-- a region that is not among those of rows is that of no row
no_row_of : (region : List ℕ) (weight : Row → ℕ) (rows : List Row)
    → list_any (bytes_eq region) (map (λ (r : Row). r.region) rows) ≡ false → rows_sum weight rows region ≡ 0
no_row_of region weight [] none = refl
no_row_of region weight (row ∷ rows) none =
    grind (
      arith,
      no_row_of region weight rows,
      sum_by-cons (λ (r : Row). if bytes_eq region r.region then weight r else 0) row rows,
    )

-- and the rows have nothing together of it
pub none_of : (region : List ℕ) (weight : Row → ℕ) (rows : List Row)
    → list_any (bytes_eq region) (regions_of rows) ≡ false → rows_sum weight rows region ≡ 0
none_of region weight rows none =
    no_row_of region weight rows (sym (seen_among region (map (λ (r : Row). r.region) rows)) ∙ none)

module _ (weight : Row → ℕ) (rows : List Row) (row : Row) (number : ℕ) (old new : ℕ → ℕ)
    (placed : slice_get (regions_of (rows ++ row ∷ [])) number ≡ Some row.region)
    (was : (k : ℕ) (region : List ℕ) → slice_get (regions_of rows) k ≡ Some region
    → old k ≡ capped (rows_sum weight rows region))
    (past : (k : ℕ) → length (regions_of rows) ≤ k → old k ≡ 0)
    (added : (k : ℕ) → new k ≡ (if number == k then capped (old k + weight row) else old k)) where
  -- a region's sum before the row
  before : (k : ℕ) (region : List ℕ) → slice_get (regions_of (rows ++ row ∷ [])) k ≡ Some region
      → old k ≡ capped (rows_sum weight rows region)
  before k region at =
      let names = regions_of rows in
      let there = list_any (bytes_eq row.region) names in
      let here : slice_get (with_region names row.region) k ≡ Some region =
      sym (ap (λ list. slice_get list k) (region_added rows row)) ∙ at in
      elim (placed_before names row.region region k there refl here) [
        | inl stood ↦ was k region stood
        | inr last ↦
            past k (omega (arith, last.0))
            ∙ ap capped (sym (none_of region weight rows
            (ap (λ name. list_any (bytes_eq name) names) last.1 ∙ last.2)))
      ]

  -- the row is of the region just where its number is the region's
  is_here : (k : ℕ) (region : List ℕ) → slice_get (regions_of (rows ++ row ∷ [])) k ≡ Some region
      → bytes_eq region row.region ≡ (number == k)
  is_here k region at = elim (cases_eq number k) [
    | inl same ↦
        let is : Some region ≡ Some row.region =
        sym at ∙ ap (λ n. slice_get (regions_of (rows ++ row ∷ [])) n) (sym same) ∙ placed in
        let own : region ≡ row.region = cc in
        (bytes_decides region row.region).1 own ∙ sym (eq-eqb number k same)
    | inr other ↦
        false_from_ne_true (bytes_eq region row.region)
        (λ is. other
        (sym (one_place bytes_eq (λ x y e. (bytes_decides y x).1 (sym ((bytes_decides x y).0 e)))
        (regions_of (rows ++ row ∷ [])) k number region row.region (regions_apart (rows ++ row ∷ [])) at placed is)))
        ∙ sym (ne_eqb number k other)
  ]

  -- a region's sum with the row
  pub one_more : (k : ℕ) (region : List ℕ) → slice_get (regions_of (rows ++ row ∷ [])) k ≡ Some region
      → new k ≡ capped (rows_sum weight (rows ++ row ∷ []) region)
  one_more k region at =
      capped_where (number == k) (rows_sum weight rows region) (old k) (new k) (weight row) (before k region at)
      (added k)
      ∙ ap capped
      (ap (λ (t : Bool). rows_sum weight rows region + (if t then weight row else 0)) (sym (is_here k region at))
      ∙ sym (sum_by_push (λ (r : Row). if bytes_eq region r.region then weight r else 0) rows row))
