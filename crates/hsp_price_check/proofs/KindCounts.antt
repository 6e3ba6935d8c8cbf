-- The regions of rows, as rows come in.
use Rattle.std.proofs.Common.{◌≡◌, ◌∙◌, ◌⊎◌, ◌<◌, ◌≤◌, inl, inr, ℕ, true, List, [], ◌∷◌, ◌++◌, length, length-append}
use Rattle.std.proofs.Common.{map, refl, ap, arith}
use Rattle.std.proofs.lemmas.List.{map-append}
use Rattle.std.specs.List.{list_any}
use Rattle.std.specs.Str.{bytes_eq}
use Rattle.hsp_tables.proofs.SeenNames.{first_seen-append}
use Rattle.hsp_tables.specs.Table.{first_seen}
use Rattle.hsp_text.specs.declared.limits.TheConstants.{MOST_LOG_REGIONS}
use Rattle.hsp_instance.specs.Instance.{Row, regions_of}
use Rattle.hsp_instance.specs.RowArcs.{with_region}

-- a region that is there is not put in again
there_already : (regions : List (List ℕ)) (region : List ℕ) → list_any (bytes_eq region) regions ≡ true
    → with_region regions region ≡ regions
there_already regions region e = rw e refl

-- regions stay few where the region is known, or where there are not as many as there may be
pub few_regions : (regions : List (List ℕ)) (region : List ℕ) → length regions ≤ MOST_LOG_REGIONS
    → (list_any (bytes_eq region) regions ≡ true) ⊎ (length regions < MOST_LOG_REGIONS)
    → length (with_region regions region) ≤ MOST_LOG_REGIONS
few_regions regions region few (inl known) = rw (there_already regions region known) few
few_regions regions region few (inr room) = grind (arith, length-append regions (region ∷ []))

-- one row more adds its region
pub region_added : (rows : List Row) (row : Row)
    → regions_of (rows ++ row ∷ []) ≡ with_region (regions_of rows) row.region
region_added rows row =
    ap first_seen (map-append (λ (r : Row). r.region) rows (row ∷ []))
    ∙ first_seen-append (map (λ (r : Row). r.region) rows) row.region
