-- The table of costs: what a query from a region costs at a site.
use Rattle.std.specs.Prelude.{◌≡◌, ◌≤◌, ◌==◌, ◌&&◌, Bool, true, ℕ, List, [], ◌∷◌, Result, Ok, codes, is_ok}
use Rattle.std.specs.Prelude.{if◌then◌else◌}
use Rattle.std.specs.Str.{bytes_eq}
use Rattle.hsp_csv.specs.Records.{Fields}
use Rattle.hsp_text.specs.Name.{is_name}
use Rattle.hsp_text.specs.declared.limits.TheConstants.{GREATEST_COST, MOST_COST_ROWS, MOST_LOG_COST_ROWS}
use Rattle.hsp_text.specs.declared.limits.TheConstants.{MOST_LOG_REGIONS, MOST_REGIONS}
use Rattle.hsp_tables.specs.declared.fault.TableFault.{TableFault}
use Rattle.hsp_tables.specs.declared.limits.Limits.{Limits}
use Rattle.hsp_tables.specs.declared.limits.Limits.TheVariants.{Logs, Tables}
use Rattle.hsp_text.specs.Answers.{◌>>=◌}
use Rattle.hsp_tables.specs.Fields.{name_in, number_in, of_three}
use Rattle.hsp_tables.specs.Table.{AreRows, Table}

pub record CostEntry : Type 0 where
  pub region : List ℕ
  pub site : List ℕ
  pub cost : ℕ

-- the row that fields spell
abbrev pub cost_of : ℕ → List ℕ → List ℕ → List ℕ → Result CostEntry TableFault
cost_of row region site cost = do
  r ← name_in row region
  s ← name_in row site
  c ← number_in row GREATEST_COST cost
  Ok (record { region = r; site = s; cost = c })

abbrev pub cost_in : ℕ → Fields → Result CostEntry TableFault
cost_in row fields = of_three cost_of row fields

-- what each field may be: a name, another name, a number
abbrev pub is_cost_field : ℕ → List ℕ → Bool
is_cost_field field octets =
    if field == 2 then is_ok (number_in 0 GREATEST_COST octets) else is_ok (name_in 0 octets)

-- the key is the region and the site
abbrev pub same_cost : CostEntry → CostEntry → Bool
same_cost a b = bytes_eq a.region b.region && bytes_eq a.site b.site

-- how many rows there may be, and of how many regions
abbrev pub most_cost_rows : Limits → ℕ
most_cost_rows Tables = MOST_COST_ROWS
most_cost_rows Logs = MOST_LOG_COST_ROWS

abbrev pub most_cost_regions : Limits → ℕ
most_cost_regions Tables = MOST_REGIONS
most_cost_regions Logs = MOST_LOG_REGIONS

abbrev pub cost_table : Limits → Table CostEntry
cost_table limits = record {
  header = codes "region" ∷ codes "site" ∷ codes "cost" ∷ [];
  most_rows = most_cost_rows limits;
  most_regions = most_cost_regions limits;
  row_in = cost_in;
  is_good = is_cost_field;
  same_key = same_cost;
  has_regions = true;
  region_of = λ (row : CostEntry). row.region;
}

-- what each row is
pub record IsCostEntry (row : CostEntry) : Type 0 where
  pub region : is_name row.region ≡ true
  pub site : is_name row.site ≡ true
  pub cost : row.cost ≤ GREATEST_COST

-- what the rows are within limits
abbrev pub AreCostsWithin : Limits → List CostEntry → Type 0
AreCostsWithin limits rows = AreRows (cost_table limits) IsCostEntry rows

-- what the rows are, whatever limits they were read by
abbrev pub AreCosts : List CostEntry → Type 0
AreCosts rows = AreCostsWithin Logs rows
