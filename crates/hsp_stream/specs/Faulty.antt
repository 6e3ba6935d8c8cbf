-- Every faulty row of a table or a log.
use Rattle.std.specs.Prelude.{◌≡◌, ◌≢◌, ◌+◌, ◌-◌, ◌^◌, ◌⊎◌, ◌<◌, ◌≤◌, true, false, ℕ, List, [], ◌∷◌, map, min, Option}
use Rattle.std.specs.Prelude.{Some, None, if◌then◌else◌}
use Rattle.hsp_csv.specs.Found.{listed, place_at}
use Rattle.hsp_csv.specs.Header.{same_fields}
use Rattle.hsp_csv.specs.Places.{Placed, first_line}
use Rattle.hsp_csv.specs.Records.{Fields}
use Rattle.hsp_csv.specs.declared.found.Checked.{Checked}
use Rattle.hsp_csv.specs.declared.found.Checked.TheVariants.{Faulty, Good, Last}
use Rattle.hsp_csv.specs.declared.found.Found.{Found}
use Rattle.hsp_text.specs.declared.limits.TheConstants.{MOST_LOG_ROWS}
use Rattle.hsp_log.specs.RowChecks.{IsRowRefused, IsSpelled, field_at_fault, log_header}
use Rattle.hsp_log.specs.declared.fault.LogFault.{LogFault}
use Rattle.hsp_log.specs.declared.fault.LogFault.TheVariants.{Header as LogHeader, LogTooLong}
use Rattle.hsp_log.specs.declared.form.LogForm.{LogForm}
use Rattle.hsp_inputs.specs.declared.fault.Fault.TheVariants as input
use Rattle.hsp_tables.specs.TableChecks.{faulty_at_start, header_of}
use Rattle.hsp_tables.specs.declared.fault.TableFault.{TableFault}
use Rattle.hsp_tables.specs.declared.fault.TableFault.TheVariants.{Header}
use Rattle.hsp_tables.specs.declared.table_check.TableKind.{TableKind}
use Rattle.hsp_tables.specs.declared.table_check.TableKind.TheVariants as kind
use Rattle.hsp_log.specs.RowFaults.{count_fault, handle_fault, is_count_header, is_handle_header}
use Rattle.hsp_log.specs.declared.fault.RowFault.{RowFault}
use Rattle.hsp_log.specs.declared.fault.RowFault.TheVariants.{BadHandle, BadName, BadNumber, TooManyRegions}
use Rattle.hsp_inputs.specs.declared.stream_fault.StreamFault.{StreamFault}
use Rattle.hsp_inputs.specs.declared.stream_fault.StreamFault.TheVariants.{Input, Log}
use Rattle.hsp_stream.specs.Regions.{has_room, with_region}
use Rattle.hsp_stream.specs.declared.checker.Asked.{Asked}
use Rattle.hsp_stream.specs.declared.checker.Asked.TheVariants as asked
use Rattle.hsp_stream.specs.declared.checker.Headed.{Headed}
use Rattle.hsp_stream.specs.declared.checker.Headed.TheVariants as headed

-- ---- faults

abbrev pub fault_of_table : TableKind → TableFault → StreamFault
fault_of_table kind.Demand fault = Input (input.Demand fault)
fault_of_table kind.Costs fault = Input (input.Costs fault)
fault_of_table kind.Capacity fault = Input (input.Capacity fault)

-- the fault of a first record that is no header
abbrev pub header_fault : Asked → StreamFault
header_fault (asked.Table table) = fault_of_table table Header
header_fault asked.Log = Input (input.Log LogHeader)

abbrev pub found_header : Asked → Found StreamFault
found_header which = record { row = None; field = None; place = first_line 0; fault = header_fault which }

-- the same fault by the name of its table
abbrev pub named : TableKind → Found TableFault → Found StreamFault
named table found =
    record { row = found.row; field = found.field; place = found.place; fault = fault_of_table table found.fault }

-- ---- the rows of a log

-- numbers of rows stop at the greatest of 32 bits, and of 64
abbrev pub next_of_32 : ℕ → ℕ
next_of_32 row = min (row + 1) (2 ^ 32 - 1)

abbrev pub next_of_64 : ℕ → ℕ
next_of_64 row = min (row + 1) (2 ^ 64 - 1)

-- a fault of the row with a number
abbrev pub found_at : Placed → ℕ → Option ℕ → StreamFault → Found StreamFault
found_at one row field fault = record { row = Some row; field = field; place = place_at one field; fault = fault }

-- a row that is one too many
abbrev pub found_beyond : Placed → Found StreamFault
found_beyond one =
    record { row = None; field = None; place = place_at one None; fault = Input (input.Log LogTooLong) }

-- a row spells what the log has, or is refused
abbrev pub IsRead : LogForm → ℕ → Placed → Checked StreamFault → Type 0
IsRead form row one Good = IsSpelled form one.fields
IsRead form row one (Faulty found) =
    (fault : LogFault) × IsRowRefused form row one.fields fault
    × (found ≡ found_at one row (field_at_fault form fault) (Input (input.Log fault)))
IsRead form row one (Last found) = ⊥

-- what a row is that a run of hsplan reads; a row beyond the limit is the last one that is looked at
abbrev pub IsDispatched : LogForm → ℕ → Placed → Checked StreamFault → Type 0
IsDispatched form row one checked =
    ((MOST_LOG_ROWS ≤ row) × (checked ≡ Last (found_beyond one)))
    ⊎ ((row < MOST_LOG_ROWS) × IsRead form row one checked)

-- the number of the field at fault of a row with a region, a handle and a count, and of one with a handle
abbrev pub counted_field : RowFault → Option ℕ
counted_field (BadName row) = Some 0
counted_field (TooManyRegions row) = Some 0
counted_field (BadHandle row why) = Some 1
counted_field (BadNumber row) = Some 2
counted_field other = None

abbrev pub handle_field : RowFault → Option ℕ
handle_field (BadHandle row why) = Some 0
handle_field other = None

-- what a row is by its fault, if it has one
abbrev pub checked_by : (RowFault → Option ℕ) → Placed → ℕ → Option RowFault → Checked StreamFault
checked_by field_of one row None = Good
checked_by field_of one row (Some fault) = Faulty (found_at one row (field_of fault) (Log fault))

-- ---- the list

-- what a record adds to the faults of the records behind it, which are not looked at behind a last one
abbrev pub Continues : Checked StreamFault → (List (Found StreamFault) → Type 0) → List (Found StreamFault) → Type 0
Continues Good More all = More all
Continues (Faulty found) More all = (more : List (Found StreamFault)) × More more × (all ≡ found ∷ more)
Continues (Last found) More all = all ≡ found ∷ []

-- the faults of the rows of a log, the first of which has a number
abbrev pub ListsDispatched : LogForm → ℕ → List Placed → List (Found StreamFault) → Type 0
ListsDispatched form row [] all = all ≡ []
ListsDispatched form row (one ∷ more) all =
    (checked : Checked StreamFault) × IsDispatched form row one checked
    × Continues checked (ListsDispatched form (next_of_32 row) more) all

-- the same of rows whose faults a function gives
abbrev pub faults_by : (ℕ → Placed → Checked StreamFault) → ℕ → List Placed → List (Found StreamFault)
faults_by check row [] = []
faults_by check row (one ∷ more) = listed (check row one) (faults_by check (next_of_64 row) more)

-- the region that a row names
abbrev pub region_in : Fields → List ℕ
region_in [] = []
region_in (region ∷ more) = region

-- the fault of a row by itself, or that its region is one too many behind those of other rows
abbrev pub fault_behind : List (List ℕ) → ℕ → Fields → Option RowFault → Option RowFault
fault_behind regions row fields None =
    if has_room regions (region_in fields) then None else Some (TooManyRegions row)
fault_behind regions row fields (Some why) = Some why

-- the regions behind a row: one with a fault is left out
abbrev pub regions_behind : List (List ℕ) → Fields → Option RowFault → List (List ℕ)
regions_behind regions fields None = with_region regions (region_in fields)
regions_behind regions fields (Some why) = regions

-- what a row of a region, a handle and a count is
abbrev pub counted : List (List ℕ) → ℕ → Placed → Checked StreamFault
counted regions row one =
    checked_by counted_field one row (fault_behind regions row one.fields (count_fault row one.fields))

-- the faults of such rows behind rows that name these regions
abbrev pub counted_from : List (List ℕ) → ℕ → List Placed → List (Found StreamFault)
counted_from regions row [] = []
counted_from regions row (one ∷ more) =
    listed (counted regions row one)
    (counted_from (regions_behind regions one.fields (count_fault row one.fields)) (next_of_64 row) more)

abbrev pub handled : ℕ → Placed → Checked StreamFault
handled row one = checked_by handle_field one row (handle_fault row one.fields)

-- the first record is a header of what is asked for
abbrev pub IsHeadedBy : Asked → Fields → Headed → Type 0
IsHeadedBy (asked.Table table) first stated =
    (stated ≡ headed.Table table) × (same_fields first (header_of table) ≡ true)
IsHeadedBy asked.Log first (headed.Table table) = ⊥
IsHeadedBy asked.Log first (headed.Dispatched form) = first ≡ log_header form
IsHeadedBy asked.Log first headed.Counted = is_count_header first ≡ true
IsHeadedBy asked.Log first headed.Handles = is_handle_header first ≡ true

-- it is none
abbrev pub IsUnheaded : Asked → Fields → Type 0
IsUnheaded (asked.Table table) first = same_fields first (header_of table) ≡ false
IsUnheaded asked.Log first =
    ((form : LogForm) → first ≢ log_header form) × (is_count_header first ≡ false) × (is_handle_header first ≡ false)

-- the faults of the records below a header
abbrev pub ListsBelow : Headed → List Placed → List (Found StreamFault) → Type 0
ListsBelow (headed.Table table) body all = all ≡ map (named table) (faulty_at_start table body)
ListsBelow (headed.Dispatched form) body all = ListsDispatched form 0 body all
ListsBelow headed.Counted body all = all ≡ counted_from [] 0 body
ListsBelow headed.Handles body all = all ≡ faults_by handled 0 body

-- the faults of a text: those below its header, or only that it has none
abbrev pub AreFaultsOf : Asked → List Placed → List (Found StreamFault) → Type 0
AreFaultsOf which [] all = all ≡ found_header which ∷ []
AreFaultsOf which (first ∷ body) all =
    ((headed : Headed) × IsHeadedBy which first.fields headed × ListsBelow headed body all)
    ⊎ (IsUnheaded which first.fields × (all ≡ found_header which ∷ []))
