-- What looks at the rows of a table or a log.
use Rattle.std.specs.Prelude.{◌≡◌, ⊤, List, ◌∷◌, map}
use Rattle.hsp_csv.specs.Places.{Placed}
use Rattle.hsp_csv.specs.declared.found.Checked.{Checked}
use Rattle.hsp_csv.specs.declared.found.Checked.TheVariants.{Faulty, Good, Last}
use Rattle.hsp_csv.specs.declared.found.Found.{Found}
use Rattle.hsp_tables.specs.TableChecks.{AreKept, faulty_from}
use Rattle.hsp_tables.specs.declared.fault.TableFault.{TableFault}
use Rattle.hsp_tables.specs.declared.table_check.TableKind.{TableKind}
use Rattle.hsp_inputs.specs.declared.stream_fault.StreamFault.{StreamFault}
use Rattle.hsp_stream.specs.Faulty.{Continues, ListsDispatched, counted_from, faults_by, handled, named}
use Rattle.hsp_stream.specs.declared.checker.Checker.{Checker}
use Rattle.hsp_stream.specs.declared.checker.Checker.TheVariants as checker

-- the rows of a table are kept with their regions
abbrev pub IsReady : Checker → Type 0
IsReady (checker.Table kind rows) = AreKept rows
IsReady (checker.Dispatched form row) = ⊤
IsReady (checker.Counted row regions) = ⊤
IsReady (checker.Handles row) = ⊤

-- the faults of the records that are still to be looked at
abbrev pub Lists : Checker → List Placed → List (Found StreamFault) → Type 0
Lists (checker.Table kind rows) more all = all ≡ map (named kind) (faulty_from rows more)
Lists (checker.Dispatched form row) more all = ListsDispatched form row more all
Lists (checker.Counted row regions) more all = all ≡ counted_from regions row more
Lists (checker.Handles row) more all = all ≡ faults_by handled row more

-- a record was looked at: what it is, and the faults behind it, are the faults from it on
abbrev pub LooksAt : Checker → Placed → Checker → Checked StreamFault → Type 0
LooksAt old one new checked =
    (more : List Placed) (all : List (Found StreamFault)) → Continues checked (Lists new more) all
    → Lists old (one ∷ more) all

-- what a record of a table is, by the name of the table
abbrev pub checked_named : TableKind → Checked TableFault → Checked StreamFault
checked_named kind Good = Good
checked_named kind (Faulty found) = Faulty (named kind found)
checked_named kind (Last found) = Last (named kind found)
