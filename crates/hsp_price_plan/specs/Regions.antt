-- Regions: what the rows of one share.
use Rattle.std.specs.Prelude.{◌≡◌, ◌++◌, ◌==◌, ℕ, List, [], ◌∷◌, length, map, slice_index_or, if◌then◌else◌}
use Rattle.hsp_instance.specs.Building.{arcs_from}
use Rattle.hsp_instance.specs.RowArcs.{row_named}
use Rattle.hsp_instance.specs.declared.arc.Arc.{Arc}
use Rattle.hsp_prices.specs.Rows.{Service}
use Rattle.hsp_price_plan.specs.declared.region.SiteCost.{SiteCost}

-- a region's name, and the site and the cost of each arc of its rows
pub record RegionArcs : Type 0 where
  pub name : List ℕ
  pub shape : List SiteCost

-- the sites and costs of arcs
abbrev pub shape_of : List Arc → List SiteCost
shape_of arcs = map (λ arc. record { site = arc.site; cost = arc.cost }) arcs

-- the region of a row with this name and these arcs
abbrev pub region_with : List ℕ → List Arc → RegionArcs
region_with name arcs = record { name = name; shape = shape_of arcs }

-- what stands past the end of the regions
abbrev pub no_region : RegionArcs
no_region = record { name = []; shape = [] }

abbrev pub region_at : List RegionArcs → ℕ → RegionArcs
region_at regions number = slice_index_or regions number no_region

-- the regions with that of a row, where its number is that of none
abbrev pub with_region : List RegionArcs → ℕ → List ℕ → List Arc → List RegionArcs
with_region regions number name arcs =
    if number == length regions then regions ++ region_with name arcs ∷ [] else regions

-- a region has the sites and costs of the service
abbrev pub HasShape : Service → RegionArcs → Type 0
HasShape at region = region.shape ≡ shape_of (arcs_from at.costs (row_named region.name [] 0) 0 0 at.sites)
