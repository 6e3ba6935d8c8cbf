-- Rows that are joined into groups one after another.
use Rattle.std.specs.Prelude.{◌≡◌, ◌+◌, ◌&&◌, ℕ, Bool, List, [], All, map, position, set}
use Rattle.std.specs.Prelude.{slice_index_or, sum_by}
use Rattle.std.specs.Map.{lookup}
use Rattle.std.specs.Str.{bytes_eq}
use Rattle.hsp_instance.specs.Instance.{Row}
use Rattle.hsp_instance.specs.declared.arc.Arc.{Arc}
use Rattle.hsp_prices.specs.Rows.{Service}
use Rattle.hsp_prices.specs.Least.{servers_of}
use Rattle.hsp_prices.specs.Shown.{IsService}
use Rattle.hsp_price_check.specs.FirstRows.{FirstRow, is_key_of}
use Rattle.hsp_prices.specs.Groups.{AreGroupsOf, Group}
use Rattle.hsp_prices.specs.KeptRows.{KeptRow, kept_in}
use Rattle.hsp_prices.specs.Solved.{AreRows}

-- ---- rows and their groups

-- a function of the region and the server gives each of the arcs
abbrev pub AreArcsBy : (List ℕ → ℕ → Arc) → List ℕ → List Arc → Type 0
AreArcsBy arc_by region arcs = map (arc_by region) (servers_of arcs) ≡ arcs

-- the groups are those of the rows, and all kept arcs are given by a function of the region and the server
pub record IsGrouping (arc_by : List ℕ → ℕ → Arc) (rows : List KeptRow) (groups : List Group) : Type 0 where
  pub row_arcs : All (λ row. AreArcsBy arc_by row.region (kept_in row)) rows
  pub group_arcs : All (λ group. AreArcsBy arc_by group.region group.arcs) groups
  pub of_rows : AreGroupsOf rows groups

-- a row has the region, the kept arcs and the count
pub record IsOfRow (row : KeptRow) (region : List ℕ) (kept : List Arc) (count : ℕ) : Type 0 where
  pub region_is : row.region ≡ region
  pub kept_is : kept_in row ≡ kept
  pub count_is : row.count ≡ count

-- what groups ask for together
abbrev pub demand_of : List Group → ℕ
demand_of groups = sum_by (λ group. group.demand) groups

-- and what rows do
abbrev pub asked_in : List KeptRow → ℕ
asked_in rows = sum_by (λ row. row.count) rows

-- ---- groups, found by their regions and servers

-- a group is of the region, and its arcs lead to the servers
abbrev pub is_keyed : List ℕ → List ℕ → Group → Bool
is_keyed region servers group = bytes_eq group.region region && bytes_eq (servers_of group.arcs) servers

-- what is found is the first group of the region and the servers
abbrev pub HasGroups : List Group → List FirstRow → Type 0
HasGroups groups numbers =
    (region servers : List ℕ) → lookup (is_key_of region servers) numbers ≡ position (is_keyed region servers) groups

-- ---- one row more

-- a group that asks for a count more
abbrev pub with_count : ℕ → Group → Group
with_count count group = record { region = group.region; arcs = group.arcs; demand = group.demand + count }

-- what stands past the end of the groups
abbrev pub no_group : Group
no_group = record { region = []; arcs = []; demand = 0 }

-- the group with a number asks for a count more
abbrev pub with_count_at : List Group → ℕ → ℕ → List Group
with_count_at groups number count = set groups number (with_count count (slice_index_or groups number no_group))

-- ---- rows of a service

-- The regions and servers of a service determine its arcs: one function gives the kept arcs of all rows of it.
abbrev pub ServicesGiveArcs : Type 0
ServicesGiveArcs =
    (at : Service) → IsService at
    → (arc_by : List ℕ → ℕ → Arc)
    × ((rows : List Row) (kept : List KeptRow) → AreRows at rows kept
    → All (λ row. AreArcsBy arc_by row.region (kept_in row)) kept)
