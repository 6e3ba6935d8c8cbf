-- The rows of one of the three tables, looked at one after the other.
use Rattle.std.specs.Prelude.{◌≡◌, ℕ, List, [], ◌∷◌, map}
use Rattle.hsp_csv.specs.Places.{Placed}
use Rattle.hsp_csv.specs.Records.{Fields}
use Rattle.hsp_csv.specs.Found.{listed}
use Rattle.hsp_csv.specs.declared.found.Checked.{Checked}
use Rattle.hsp_csv.specs.declared.found.Found.{Found}
use Rattle.hsp_tables.specs.Capacities.{capacity_table}
use Rattle.hsp_tables.specs.Costs.{cost_table}
use Rattle.hsp_tables.specs.declared.limits.Limits.TheVariants.{Logs}
use Rattle.hsp_tables.specs.Demand.{demand_table}
use Rattle.hsp_tables.specs.Faulty.{faults_of, faulty_rows}
use Rattle.hsp_tables.specs.Kept.{IsKept}
use Rattle.hsp_tables.specs.Keyed.{cost_entry, demand_entry}
use Rattle.hsp_tables.specs.KeyedRows.{server_entry}
use Rattle.hsp_tables.specs.declared.fault.TableFault.{TableFault}
use Rattle.hsp_tables.specs.declared.table_check.TableKind.{TableKind}
use Rattle.hsp_tables.specs.declared.table_check.TableKind.TheVariants as kind
use Rattle.hsp_tables.specs.declared.table_check.TableCheck.{TableCheck}
use Rattle.hsp_tables.specs.declared.table_check.Held.{Held}
use Rattle.hsp_tables.specs.declared.table_check.Held.TheVariants as held

-- the header of a table
abbrev pub header_of : TableKind → Fields
header_of kind.Demand = demand_table.header
header_of kind.Costs = (cost_table Logs).header
header_of kind.Capacity = capacity_table.header

-- the faults of a table
abbrev pub faults_in : TableKind → List Placed → List (Found TableFault)
faults_in kind.Demand all = faults_of demand_table all
faults_in kind.Costs all = faults_of (cost_table Logs) all
faults_in kind.Capacity all = faults_of capacity_table all

-- those of records below the header
abbrev pub faulty_at_start : TableKind → List Placed → List (Found TableFault)
faulty_at_start kind.Demand body = faulty_rows demand_table 0 [] body
faulty_at_start kind.Costs body = faulty_rows (cost_table Logs) 0 [] body
faulty_at_start kind.Capacity body = faulty_rows capacity_table 0 [] body

-- those of the records behind the rows that are kept
abbrev pub faulty_behind : Held → List Placed → List (Found TableFault)
faulty_behind (held.Demand kept) more =
    faulty_rows demand_table kept.row (map demand_entry kept.rows.entries) more
faulty_behind (held.Costs kept) more =
    faulty_rows (cost_table Logs) kept.row (map cost_entry kept.rows.entries) more
faulty_behind (held.Capacity kept) more =
    faulty_rows capacity_table kept.row (map server_entry kept.rows.entries) more

abbrev pub faulty_from : TableCheck → List Placed → List (Found TableFault)
faulty_from rows more = faulty_behind rows.held more

-- the rows are kept with their regions
abbrev pub AreHeld : Held → Type 0
AreHeld (held.Demand kept) = IsKept demand_table (map demand_entry kept.rows.entries) kept.regions
AreHeld (held.Costs kept) = IsKept (cost_table Logs) (map cost_entry kept.rows.entries) kept.regions
AreHeld (held.Capacity kept) = IsKept capacity_table (map server_entry kept.rows.entries) kept.regions

abbrev pub AreKept : TableCheck → Type 0
AreKept rows = AreHeld rows.held

-- the next record was checked: its row is faulty or it is kept, and what is found behind it is as before
abbrev pub IsChecked : TableCheck → Placed → Checked TableFault → TableCheck → Type 0
IsChecked old one checked new =
    (more : List Placed) → faulty_from old (one ∷ more) ≡ listed checked (faulty_from new more)
