-- A table: the records of a text as rows under a header, or the first fault.
use Rattle.std.specs.Prelude.{◌≡◌, ◌≢◌, ◌≤◌, ◌↔◌, ◌⊎◌, Bool, ℕ, List, [], ◌∷◌, ◌++◌, length, fold, map, nat_le, nat_lt}
use Rattle.std.specs.Prelude.{Result}
use Rattle.std.specs.Prelude.{Ok, Err, if◌then◌else◌}
use Rattle.std.specs.List.{IsDistinct, list_any}
use Rattle.std.specs.Str.{bytes_eq}
use Rattle.indexmap.specs.IndexSet.{insert_key}
use Rattle.hsp_csv.specs.Header.{same_fields}
use Rattle.hsp_csv.specs.Records.{Fields}
use Rattle.hsp_tables.specs.declared.fault.TableFault.{TableFault}
use Rattle.hsp_tables.specs.declared.fault.TableFault.TheVariants.{Header, RowTwice, TooManyRows, TooManyRegions}
use Rattle.hsp_text.specs.Answers.{◌>>=◌}
use Rattle.hsp_tables.specs.InTurn.{AreKeyed, Reading, SpellInTurn, keyed_after, rows_after}

-- a kind of table: its header, the limits of its rows and its regions, the row that the fields of a record spell by its
-- number, which octets the field of a number may be, when two rows have one key, whether its rows are of regions, and
-- the region of a row
pub record Table (Row : Type 0) : Type 0 where
  pub header : Fields
  pub most_rows : ℕ
  pub most_regions : ℕ
  pub row_in : ℕ → Fields → Result Row TableFault
  pub is_good : ℕ → List ℕ → Bool
  pub same_key : Row → Row → Bool
  pub has_regions : Bool
  pub region_of : Row → List ℕ

-- names in first-seen order, each once
abbrev pub first_seen : List (List ℕ) → List (List ℕ)
first_seen names = fold (insert_key bytes_eq) [] names

-- the regions of rows, each once, where they are of regions
abbrev pub regions_of : {Row : Type 0} → Table Row → List Row → List (List ℕ)
regions_of table rows = if table.has_regions then first_seen (map table.region_of rows) else []

-- the regions that were seen, and that of a further row
abbrev pub seen_with : {Row : Type 0} → Table Row → List (List ℕ) → Row → List (List ℕ)
seen_with table seen row = if table.has_regions then insert_key bytes_eq seen (table.region_of row) else seen

-- a row whose region is not one too many
abbrev pub of_few_regions : {Row : Type 0} → Table Row → List Row → Row → Result Row TableFault
of_few_regions table earlier row =
    if nat_lt table.most_regions (length (regions_of table (earlier ++ row ∷ []))) then Err TooManyRegions
    else Ok row

-- the row of a record after the rows before it, or its first fault
abbrev pub row_after : {Row : Type 0} → Table Row → Reading Fields Row
row_after table earlier fields =
    keyed_after table.most_rows TooManyRows table.row_in table.same_key RowTwice earlier fields
    >>= of_few_regions table earlier

-- the same by a number that its row has whatever rows stand before it
abbrev pub row_at : {Row : Type 0} → Table Row → ℕ → List Row → Fields → Result Row TableFault
row_at table number earlier fields =
    (if nat_le table.most_rows (length earlier) then Err TooManyRows
    else table.row_in number fields >>= λ row. if list_any (table.same_key row) earlier
    then Err (RowTwice number) else Ok row)
    >>= of_few_regions table earlier

-- the rows that the records give, or the first fault
abbrev pub table_of : {Row : Type 0} → Table Row → List Fields → Result (List Row) TableFault
table_of table [] = Err Header
table_of table (first ∷ body) =
    if same_fields first table.header then rows_after (row_after table) [] body else Err Header

-- what the rows of a table are: within its limits, each as it should be, and no two with one key
pub record AreRows {Row : Type 0} (table : Table Row) (Is : Row → Type 0) (rows : List Row) : Type 0 where
  pub keyed : AreKeyed table.most_rows Is table.same_key rows
  pub regions : length (regions_of table rows) ≤ table.most_regions

-- records under the header spell rows, each by its number
abbrev pub SpellRows : {Row : Type 0} → Table Row → ℕ → List Fields → List Row → Type 0
SpellRows table number body rows = SpellInTurn table.row_in number body rows

-- as a relation: the records are the header and those that spell the rows, which are within the limits, no two with one
-- key
pub record IsTable {Row : Type 0} (table : Table Row) (records : List Fields) (rows : List Row) : Type 0 where
  pub body : List Fields
  pub headed : records ≡ table.header ∷ body
  pub spelled : SpellRows table 0 body rows
  pub few : length rows ≤ table.most_rows
  pub apart : IsDistinct table.same_key rows
  pub regions : length (regions_of table rows) ≤ table.most_regions

-- the first record is not the header, or there is none
abbrev pub LacksHeader : {Row : Type 0} → Table Row → List Fields → Type 0
LacksHeader table records = (body : List Fields) → records ≢ table.header ∷ body

-- the fault of a record after records that are a table
pub record IsRowFault {Row : Type 0} (table : Table Row) (records : List Fields) (fault : TableFault) : Type 0 where
  pub before : List Fields
  pub bad : Fields
  pub after : List Fields
  pub rows : List Row
  pub place : records ≡ before ++ bad ∷ after
  pub good : IsTable table before rows
  pub refused : row_after table rows bad ≡ Err fault

-- the first fault of records
abbrev pub IsTableFault : {Row : Type 0} → Table Row → List Fields → TableFault → Type 0
IsTableFault table records fault = (LacksHeader table records × (fault ≡ Header)) ⊎ IsRowFault table records fault

-- the reading is the relation: records give exactly the rows of which they are the table, or exactly their first fault
pub record ReadsAsItsRelation {Row : Type 0} (table : Table Row) : Type 0 where
  pub rows : (records : List Fields) (rows : List Row) → (table_of table records ≡ Ok rows) ↔ IsTable table records rows
  pub fault : (records : List Fields) (fault : TableFault)
      → (table_of table records ≡ Err fault) ↔ IsTableFault table records fault

-- a fault is decided by the records up to it: whatever records follow, it stays
abbrev pub KeepsFirstFault : {Row : Type 0} → Table Row → Type 0
KeepsFirstFault table =
    (first : Fields) (body more : List Fields) (fault : TableFault) → table_of table (first ∷ body) ≡ Err fault
    → table_of table (first ∷ (body ++ more)) ≡ Err fault
