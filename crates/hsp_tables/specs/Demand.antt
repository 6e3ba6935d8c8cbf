-- The table of demand: how many queries for a handle come from a region.
use Rattle.std.specs.Prelude.{◌≡◌, ◌≤◌, ◌==◌, ◌&&◌, Bool, true, ℕ, List, [], ◌∷◌, Result, Ok, codes, is_ok}
use Rattle.std.specs.Prelude.{if◌then◌else◌}
use Rattle.std.specs.Str.{bytes_eq}
use Rattle.hsp_csv.specs.Records.{Fields}
use Rattle.hsp_names.specs.Handle as names
use Rattle.hsp_text.specs.Name.{is_name}
use Rattle.hsp_text.specs.declared.limits.TheConstants.{GREATEST_COUNT, MOST_DEMAND_ROWS, MOST_REGIONS}
use Rattle.hsp_tables.specs.declared.fault.TableFault.{TableFault}
use Rattle.hsp_text.specs.Answers.{◌>>=◌}
use Rattle.hsp_tables.specs.Fields.{handle_in, name_in, number_in, of_three}
use Rattle.hsp_tables.specs.Table.{AreRows, Table}

pub record DemandEntry : Type 0 where
  pub region : List ℕ
  pub handle : List ℕ
  pub count : ℕ

-- the row that fields spell
abbrev pub demand_of : ℕ → List ℕ → List ℕ → List ℕ → Result DemandEntry TableFault
demand_of row region handle count = do
  r ← name_in row region
  h ← handle_in row handle
  c ← number_in row GREATEST_COUNT count
  Ok (record { region = r; handle = h; count = c })

abbrev pub demand_in : ℕ → Fields → Result DemandEntry TableFault
demand_in row fields = of_three demand_of row fields

-- what each field may be: a name, a handle, a number
abbrev pub is_demand_field : ℕ → List ℕ → Bool
is_demand_field field octets =
    if field == 0 then is_ok (name_in 0 octets)
    else if field == 1 then is_ok (handle_in 0 octets) else is_ok (number_in 0 GREATEST_COUNT octets)

-- the key is the region and the handle
abbrev pub is_demand : List ℕ → List ℕ → DemandEntry → Bool
is_demand region handle row = bytes_eq region row.region && bytes_eq handle row.handle

abbrev pub same_demand : DemandEntry → DemandEntry → Bool
same_demand a b = is_demand a.region a.handle b

abbrev pub demand_table : Table DemandEntry
demand_table = record {
  header = codes "region" ∷ codes "handle" ∷ codes "count" ∷ [];
  most_rows = MOST_DEMAND_ROWS;
  most_regions = MOST_REGIONS;
  row_in = demand_in;
  is_good = is_demand_field;
  same_key = same_demand;
  has_regions = true;
  region_of = λ (row : DemandEntry). row.region;
}

-- what each row is
pub record IsDemandEntry (row : DemandEntry) : Type 0 where
  pub region : is_name row.region ≡ true
  pub handle : names.handle_in row.handle ≡ Ok row.handle
  pub count : row.count ≤ GREATEST_COUNT

-- what the rows are
abbrev pub AreDemand : List DemandEntry → Type 0
AreDemand rows = AreRows demand_table IsDemandEntry rows
