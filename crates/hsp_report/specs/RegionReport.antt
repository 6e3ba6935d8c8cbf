-- What each region asks for, and what that costs by a plan.
use Rattle.std.specs.Prelude.{◌≡◌, ◌++◌, ◌∷◌, [], ◌*◌, ℕ, Bool, List, codes, decimal, sum_by, IfSome, if◌then◌else◌}
use Rattle.std.specs.List.{flat_map}
use Rattle.std.specs.Str.{bytes_eq}
use Rattle.hsp_cert.specs.Certificate.{Best, Claim, best_of}
use Rattle.hsp_instance.specs.Instance.{Instance, Row, regions_of}
use Rattle.hsp_check.specs.Instance.{network_of}
use Rattle.hsp_check.specs.Plan.{Plan, planned, total}
use Rattle.hsp_check.specs.Uses.{table}
use Rattle.hsp_report.specs.Columns.{aligned, column_line}
use Rattle.hsp_report.specs.Numbered.{row_at}

-- whether the row is of the region
abbrev pub is_of : List ℕ → Row → Bool
is_of region row = bytes_eq region row.region

-- what the rows of the region ask for
abbrev pub region_demand : Instance → List ℕ → ℕ
region_demand it region = sum_by (λ r. if is_of region r then r.count else 0) it.rows

-- what the queries of its rows cost
abbrev pub region_cost : Instance → Plan → List ℕ → ℕ
region_cost it x region =
    let n = network_of it in
    sum_by (λ a. if is_of region (row_at it a.row) then a.cost * planned x a else 0) n.arcs

abbrev pub region_header : List ℕ
region_header = codes "    demand             cost region" ++ 10 ∷ []

abbrev pub region_line : Instance → Plan → List ℕ → List ℕ
region_line it x region =
    column_line
    (aligned 10 (region_demand it region) ∷ aligned 16 (region_cost it x region) ∷ [])
    region

abbrev pub region_lines : Instance → Plan → List (List ℕ) → List ℕ
region_lines it x regions = flat_map (region_line it x) regions

-- what all rows ask for, and what the plan costs
abbrev pub total_line : Instance → Plan → List ℕ
total_line it x =
    let demand = sum_by (λ r. r.count) it.rows in
    let cost = total (network_of it) x in
    codes "total " ++ (decimal demand ++ 32 ∷ (decimal cost ++ 10 ∷ []))

-- the regions stand in the order in which the rows name them first
abbrev pub region_report : Instance → Best → List ℕ
region_report it plan =
    let x = table plan.uses in
    region_header ++ (region_lines it x (regions_of it.rows) ++ total_line it x)

-- the report of a certificate that shows a plan
abbrev pub IsRegionReport : Instance → Claim → List ℕ → Type 0
IsRegionReport it claim text = IfSome (best_of claim) (λ plan. text ≡ region_report it plan)
