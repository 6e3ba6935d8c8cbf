-- What each region asks for, and what that costs by the rows and the classes of a plan.
use Rattle.std.specs.Prelude.{◌++◌, ◌∷◌, [], ℕ, List, codes, decimal, slice_index_or, sum_by}
use Rattle.std.specs.List.{flat_map}
use Rattle.hsp_instance.specs.Instance.{Row, regions_of}
use Rattle.hsp_prices.specs.Rows.{Service}
use Rattle.hsp_price_text.specs.Claim.{Best}
use Rattle.hsp_price_check.specs.Regions.{region_cost, region_demand}
use Rattle.hsp_report.specs.Columns.{aligned, column_line}
use Rattle.hsp_report.specs.RegionReport.{region_header}

abbrev pub region_line : Service → Best → List Row → List ℕ → List ℕ
region_line at plan rows region =
    column_line
    (aligned 10 (region_demand rows region) ∷ aligned 16 (region_cost at plan rows region) ∷ [])
    region

-- the regions in the order in which the rows name them first
abbrev pub region_lines : Service → Best → List Row → List ℕ
region_lines at plan rows = flat_map (region_line at plan rows) (regions_of rows)

-- the region with a number in that order
abbrev pub region_line_at : Service → Best → List Row → ℕ → List ℕ
region_line_at at plan rows k = region_line at plan rows (slice_index_or (regions_of rows) k [])

-- what all rows ask for, and what the plan costs
abbrev pub total_line : Best → List Row → List ℕ
total_line plan rows =
    codes "total " ++ (decimal (sum_by (λ row. row.count) rows) ++ 32 ∷ (decimal plan.cost ++ 10 ∷ []))

abbrev pub region_report : Service → Best → List Row → List ℕ
region_report at plan rows = region_header ++ (region_lines at plan rows ++ total_line plan rows)
