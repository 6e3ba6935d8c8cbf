-- The table of capacities: how many queries the server of an identifier can take at a site.
use Rattle.std.specs.Prelude.{◌≡◌, ◌≤◌, ◌==◌, ◌&&◌, Bool, true, false, ℕ, List, [], ◌∷◌, Result, Ok, codes, is_ok}
use Rattle.std.specs.Prelude.{if◌then◌else◌}
use Rattle.std.specs.Str.{bytes_eq}
use Rattle.hsp_csv.specs.Records.{Fields}
use Rattle.hsp_text.specs.Name.{is_name}
use Rattle.hsp_text.specs.declared.limits.TheConstants.{GREATEST_CAPACITY, MOST_CAPACITY_ROWS, MOST_REGIONS}
use Rattle.hsp_tables.specs.declared.fault.TableFault.{TableFault}
use Rattle.hsp_text.specs.Answers.{◌>>=◌}
use Rattle.hsp_tables.specs.Fields.{greatest_of_32_bits, name_in, number_in, of_three}
use Rattle.hsp_tables.specs.Table.{AreRows, Table}

pub record CapacityEntry : Type 0 where
  pub site : List ℕ
  pub server_id : ℕ
  pub capacity : ℕ

-- the row that fields spell
abbrev pub capacity_of : ℕ → List ℕ → List ℕ → List ℕ → Result CapacityEntry TableFault
capacity_of row site server_id capacity = do
  s ← name_in row site
  i ← number_in row greatest_of_32_bits server_id
  c ← number_in row GREATEST_CAPACITY capacity
  Ok (record { site = s; server_id = i; capacity = c })

abbrev pub capacity_in : ℕ → Fields → Result CapacityEntry TableFault
capacity_in row fields = of_three capacity_of row fields

-- what each field may be: a name, an identifier, a number
abbrev pub is_capacity_field : ℕ → List ℕ → Bool
is_capacity_field field octets =
    if field == 0 then is_ok (name_in 0 octets)
    else if field == 1 then is_ok (number_in 0 greatest_of_32_bits octets)
    else is_ok (number_in 0 GREATEST_CAPACITY octets)

-- the key is the site and the identifier
abbrev pub same_capacity : CapacityEntry → CapacityEntry → Bool
same_capacity a b = bytes_eq a.site b.site && (a.server_id == b.server_id)

abbrev pub capacity_table : Table CapacityEntry
capacity_table = record {
  header = codes "site" ∷ codes "server_id" ∷ codes "capacity" ∷ [];
  most_rows = MOST_CAPACITY_ROWS;
  most_regions = MOST_REGIONS;
  row_in = capacity_in;
  is_good = is_capacity_field;
  same_key = same_capacity;
  has_regions = false;
  region_of = λ (row : CapacityEntry). [];
}

-- what each row is
pub record IsCapacityEntry (row : CapacityEntry) : Type 0 where
  pub site : is_name row.site ≡ true
  pub server_id : row.server_id ≤ greatest_of_32_bits
  pub capacity : row.capacity ≤ GREATEST_CAPACITY

-- what the rows are
abbrev pub AreCapacities : List CapacityEntry → Type 0
AreCapacities rows = AreRows capacity_table IsCapacityEntry rows
