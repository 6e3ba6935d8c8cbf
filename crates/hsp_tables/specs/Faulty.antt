-- Every faulty row of a table. A row that has a fault is left out: the rows behind it are read as if it weren't there,
-- but for their numbers, which count it.
use Rattle.std.specs.Prelude.{◌≡◌, ◌+◌, ◌-◌, ◌^◌, Bool, true, false, ℕ, List, [], ◌∷◌, ◌++◌, min, Option, Some, None}
use Rattle.std.specs.Prelude.{Result, Ok, Err, is_some, if◌then◌else◌}
use Rattle.hsp_csv.specs.Found.{first_fault, listed, place_at}
use Rattle.hsp_csv.specs.Header.{same_fields}
use Rattle.hsp_csv.specs.Places.{Placed, fields_in, first_line}
use Rattle.hsp_csv.specs.Records.{Fields}
use Rattle.hsp_csv.specs.declared.found.Checked.{Checked}
use Rattle.hsp_csv.specs.declared.found.Checked.TheVariants.{Faulty, Good, Last}
use Rattle.hsp_csv.specs.declared.found.Found.{Found}
use Rattle.hsp_tables.specs.declared.fault.TableFault.{TableFault}
use Rattle.hsp_tables.specs.declared.fault.TableFault.TheVariants.{BadHandle, BadName, BadNumber, Header, TooManyRows}
use Rattle.hsp_tables.specs.Table.{Table, row_at, table_of}

-- the fault is of one field
abbrev pub is_of_field : TableFault → Bool
is_of_field (BadName row) = true
is_of_field (BadHandle row why) = true
is_of_field (BadNumber row) = true
is_of_field other = false

-- of three fields the number of the first one that is not as it should be
abbrev pub first_bad : (ℕ → List ℕ → Bool) → Fields → Option ℕ
first_bad is_good (first ∷ second ∷ third ∷ []) =
    if is_good 0 first then if is_good 1 second then if is_good 2 third then None else Some 2 else Some 1 else Some 0
first_bad is_good other = None

-- the number of the field at fault: the first one that is not as it should be
abbrev pub field_at_fault : {Row : Type 0} → Table Row → TableFault → Fields → Option ℕ
field_at_fault table fault fields = if is_of_field fault then first_bad table.is_good fields else None

-- a fault of the row with a number, at a field or at none
abbrev pub found_at : ℕ → Placed → TableFault → Option ℕ → Found TableFault
found_at number one fault field =
    record { row = Some number; field = field; place = place_at one field; fault = fault }

-- a record that is one row too many: its fault is of no one row
abbrev pub found_beyond : Placed → Found TableFault
found_beyond one = record { row = None; field = None; place = place_at one None; fault = TooManyRows }

-- what a record is, by its row or its fault
abbrev pub checked_as : {Row : Type 0} → Table Row → ℕ → Placed → Result Row TableFault → Checked TableFault
checked_as table number one (Ok row) = Good
checked_as table number one (Err TooManyRows) = Last (found_beyond one)
checked_as table number one (Err fault) = Faulty (found_at number one fault (field_at_fault table fault one.fields))

-- the rows without fault, with that of a further record
abbrev pub with_good : {Row : Type 0} → List Row → Result Row TableFault → List Row
with_good earlier (Ok row) = earlier ++ row ∷ []
with_good earlier (Err fault) = earlier

-- the number of the next row: numbers stop at 2^32 - 1
abbrev pub next_row : ℕ → ℕ
next_row number = min (number + 1) (2 ^ 32 - 1)

-- the faults of the rows of records, the first of which has a number, after the rows before it that have no fault
unfoldable pub faulty_rows : {Row : Type 0} → Table Row → ℕ → List Row → List Placed → List (Found TableFault)
faulty_rows table number earlier [] = []
faulty_rows table number earlier (one ∷ more) =
    listed (checked_as table number one (row_at table number earlier one.fields))
    (faulty_rows table (next_row number) (with_good earlier (row_at table number earlier one.fields)) more)

-- the first record is not the header
abbrev pub found_header : Found TableFault
found_header = record { row = None; field = None; place = first_line 0; fault = Header }

-- the faults of a table
abbrev pub faults_of : {Row : Type 0} → Table Row → List Placed → List (Found TableFault)
faults_of table [] = found_header ∷ []
faults_of table (first ∷ body) =
    if same_fields first.fields table.header then faulty_rows table 0 [] body else found_header ∷ []

-- ---- laws

abbrev pub fault_in : {A : Type 0} → Result A TableFault → Option TableFault
fault_in (Ok rows) = None
fault_in (Err fault) = Some fault

-- the first fault of the list is the one by which the table is refused, and there is none where it is read
abbrev pub BeginsWithTheFault : {Row : Type 0} → Table Row → Type 0
BeginsWithTheFault table =
    (all : List Placed) → first_fault (faults_of table all) ≡ fault_in (table_of table (fields_in all))

-- a fault of one field has a field that is not as it should be
abbrev pub HasItsField : {Row : Type 0} → Table Row → Type 0
HasItsField table =
    (number : ℕ) (fields : Fields) (fault : TableFault) → table.row_in number fields ≡ Err fault
    → is_of_field fault ≡ true → is_some (field_at_fault table fault fields) ≡ true
