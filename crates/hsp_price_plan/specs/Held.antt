-- Rows in memory.
use Rattle.std.specs.Prelude.{◌≡◌, ◌≤◌, ◌<◌, ◌++◌, ◌*◌, ◌^◌, ℕ, List, [], ◌∷◌, drop, length, map, slice_index_or, take}
use Rattle.std.specs.List.{AllByRecursion}
use Rattle.hsp_text.specs.declared.limits.TheConstants.{MOST_LOG_REGIONS, MOST_SITES}
use Rattle.hsp_instance.specs.RowArcs.{IsWithin}
use Rattle.hsp_instance.specs.declared.arc.Arc.{Arc}
use Rattle.hsp_prices.specs.KeptRows.{KeptRow, arcs_in}
use Rattle.hsp_price_plan.specs.Entries.{AreServers, loose_arc}
use Rattle.hsp_price_plan.specs.Keeping.{row_by}
use Rattle.hsp_price_plan.specs.Regions.{RegionArcs, region_at, region_with, with_region}

-- the greatest number of arcs of a row, the regions in first-seen order, and the rows with all their arcs
pub record HeldRows : Type 0 where
  pub sites : ℕ
  pub regions : List RegionArcs
  pub rows : List KeptRow

-- ---- what callers see

abbrev pub no_rows : ℕ → HeldRows
no_rows sites = record { sites = sites; regions = []; rows = [] }

abbrev pub no_row : KeptRow
no_row = record { region = []; arcs = []; count = 0 }

abbrev pub row_at : HeldRows → ℕ → KeptRow
row_at held k = slice_index_or held.rows k no_row

-- the name of a region
abbrev pub region_named : HeldRows → ℕ → List ℕ
region_named held number = (region_at held.regions number).name

-- a row none of whose arcs is kept
abbrev pub loose_row : List ℕ → List Arc → ℕ → KeptRow
loose_row name arcs count = record { region = name; arcs = map loose_arc arcs; count = count }

-- There is room for a row, and its number is that of the next region, or of one that has its name and the sites and
-- costs of its arcs.
pub record CanPush (held : HeldRows) (number : ℕ) (name : List ℕ) (arcs : List Arc) : Type 0 where
  pub few : length held.rows < 2 ^ 32
  pub sites : length arcs ≤ held.sites
  pub servers : AreServers arcs
  pub few_regions : number < MOST_LOG_REGIONS
  pub in_turn : number ≤ length held.regions
  pub known : number < length held.regions → region_at held.regions number ≡ region_with name arcs

-- the rows with one more
abbrev pub with_row : HeldRows → ℕ → List ℕ → List Arc → ℕ → HeldRows
with_row held number name arcs count = record {
  sites = held.sites;
  regions = with_region held.regions number name arcs;
  rows = held.rows ++ loose_row name arcs count ∷ [];
}

-- arcs lead to servers below a number, at costs within their limit
abbrev pub AreWithin : ℕ → List KeptRow → Type 0
AreWithin servers rows = AllByRecursion (λ row. AllByRecursion (IsWithin servers) (arcs_in row)) rows

-- a change of each row
abbrev pub with_each : (KeptRow → KeptRow) → HeldRows → HeldRows
with_each f held = record { sites = held.sites; regions = held.regions; rows = map f held.rows }

-- ---- how they are held

-- the rows, by the numbers of their regions, their counts, and so many entries each
abbrev pub rows_by : ℕ → List RegionArcs → List ℕ → List ℕ → List ℕ → List KeptRow
rows_by sites regions [] counts places = []
rows_by sites regions (number ∷ numbers) [] places = []
rows_by sites regions (number ∷ numbers) (count ∷ counts) places =
    row_by (region_at regions number) (take sites places) count
    ∷ rows_by sites regions numbers counts (drop sites places)

-- there is a region, a count and room for entries for each row
pub record AreInPlace (sites : ℕ) (regions : List RegionArcs) (numbers counts places : List ℕ) : Type 0 where
  pub few_sites : sites ≤ MOST_SITES
  pub few_regions : length regions ≤ MOST_LOG_REGIONS
  pub few : length numbers ≤ 2 ^ 32
  pub many_counts : length counts ≡ length numbers
  pub many_places : length places ≡ length numbers * sites
  pub known : AllByRecursion (λ number. number < length regions) numbers
  pub shapes : AllByRecursion (λ region. length region.shape ≤ sites) regions
