-- What the rows and the classes of a region ask for and cost, and the sums of it that a pass keeps.
use Rattle.std.specs.Prelude.{◌≡◌, ◌<◌, ◌+◌, ◌==◌, ℕ, List, Option, Some, None, length, sum_by}
use Rattle.std.specs.Prelude.{slice_get, slice_index_or, if◌then◌else◌}
use Rattle.std.specs.Str.{bytes_eq}
use Rattle.hsp_instance.specs.Instance.{Row, regions_of}
use Rattle.hsp_prices.specs.Rows.{Service}
use Rattle.hsp_price_text.specs.Claim.{Best, Class}
use Rattle.hsp_prices.specs.Sums.{class_cost, row_cost}
use Rattle.hsp_price_check.specs.Passed.{capped}
use Rattle.hsp_price_check.specs.declared.regions.RegionSums.{RegionSums}

-- ---- a region

-- what the rows of a region have together of what each row has
abbrev pub rows_sum : (Row → ℕ) → List Row → List ℕ → ℕ
rows_sum weight rows region = sum_by (λ row. if bytes_eq region row.region then weight row else 0) rows

-- what they ask for
abbrev pub region_demand : List Row → List ℕ → ℕ
region_demand rows region = rows_sum (λ row. row.count) rows region

-- what a class costs, where it is of the region
abbrev pub cost_in : Service → List ℕ → Class → ℕ
cost_in at region class = if bytes_eq region class.region then class_cost at class else 0

-- what the classes of a region cost
abbrev pub classes_sum : Service → List Class → List ℕ → ℕ
classes_sum at classes region = sum_by (cost_in at region) classes

-- what its rows with one least server and its classes cost
abbrev pub region_cost : Service → Best → List Row → List ℕ → ℕ
region_cost at plan rows region = rows_sum (row_cost at plan) rows region + classes_sum at plan.classes region

-- ---- the sums that are kept

-- what a row costs by a plan that is judged, and 0 where none is
abbrev pub cost_by : Service → Option Best → Row → ℕ
cost_by at (Some plan) row = row_cost at plan row
cost_by at None row = 0

-- the sums of a region that has no row yet
abbrev pub no_sums : RegionSums
no_sums = record { demand = 0; cost = 0 }

-- the sums with a number, past the end those of no row
abbrev pub sums_at : List RegionSums → ℕ → RegionSums
sums_at sums k = slice_index_or sums k no_sums

-- there is room for the number, and the sums stay
pub record HasRoom (old : List RegionSums) (number : ℕ) (new : List RegionSums) : Type 0 where
  pub inside : number < length new
  pub many : length new ≡ (if number == length old then length old + 1 else length old)
  pub each : (k : ℕ) → sums_at new k ≡ sums_at old k

-- a row is added to the sums of the region with the number, and the others stay
pub record IsRegionAdded (old : List RegionSums) (number count spent : ℕ) (new : List RegionSums) : Type 0 where
  pub many : length new ≡ (if number == length old then length old + 1 else length old)
  pub demand : (k : ℕ) → (sums_at new k).demand
      ≡ (if number == k then capped ((sums_at old k).demand + count) else (sums_at old k).demand)
  pub cost : (k : ℕ) → (sums_at new k).cost
      ≡ (if number == k then capped ((sums_at old k).cost + spent) else (sums_at old k).cost)

-- the sums are those of the rows of each region, which stand at its number
pub record AreRegionSums (cost_of : Row → ℕ) (rows : List Row) (sums : List RegionSums) : Type 0 where
  pub many : length sums ≡ length (regions_of rows)
  pub demand : (k : ℕ) (region : List ℕ) → slice_get (regions_of rows) k ≡ Some region
      → (sums_at sums k).demand ≡ capped (region_demand rows region)
  pub cost : (k : ℕ) (region : List ℕ) → slice_get (regions_of rows) k ≡ Some region
      → (sums_at sums k).cost ≡ capped (rows_sum cost_of rows region)
