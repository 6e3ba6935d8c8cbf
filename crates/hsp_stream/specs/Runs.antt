-- What the run over a table or a log writes.
use Rattle.std.specs.Prelude.{◌≡◌, ⊤, Bool, true, false, ℕ, List, [], ◌∷◌, ◌++◌, take, Option, Some, None}
use Rattle.std.specs.Io.KnownBytes.{Appends}
use Rattle.hsp_csv.specs.Places.{Placed}
use Rattle.hsp_csv.specs.declared.fault.RecordsFault.{RecordsFault}
use Rattle.hsp_csv.specs.declared.fault.RecordsFault.TheVariants as records
use Rattle.hsp_csv.specs.declared.found.Found.{Found}
use Rattle.hsp_inputs.specs.declared.stream_fault.StreamFault.{StreamFault}
use Rattle.hsp_stream.specs.Checkers.{Lists}
use Rattle.hsp_stream.specs.Faulty.{AreFaultsOf, ListsBelow}
use Rattle.hsp_stream.specs.FaultLines.{lines_of, text_of}
use Rattle.hsp_stream.specs.declared.checker.Asked.{Asked}
use Rattle.hsp_stream.specs.declared.checker.Checker.{Checker}
use Rattle.hsp_stream.specs.declared.checker.Headed.{Headed}
use Rattle.hsp_stream.specs.declared.faulty_rows.FaultsStop.{FaultsStop}
use Rattle.hsp_stream.specs.declared.faulty_rows.FaultsStop.TheVariants as stop

abbrev pub stop_of : RecordsFault → FaultsStop
stop_of records.ReadFailed = stop.ReadFailed
stop_of records.OutOfMemory = stop.OutOfMemory

-- a failed read and a failed write are reported only where one may fail
abbrev pub MayStop : Type 0 → Type 0 → FaultsStop → Type 0
MayStop MayReadFail MayWriteFail stop.ReadFailed = MayReadFail
MayStop MayReadFail MayWriteFail stop.WriteFailed = MayWriteFail
MayStop MayReadFail MayWriteFail stop.OutOfMemory = ⊤

abbrev pub Faults : Type 0
Faults = List (Found StreamFault)

-- there is a fault
abbrev pub has_some : Faults → Bool
has_some [] = false
has_some (found ∷ more) = true

-- a beginning of a text was written
abbrev pub IsBegun : Option (List ℕ) → Option (List ℕ) → List ℕ → Type 0
IsBegun old new text = (count : ℕ) × Appends old new (take count text)

-- these are all the records, or some first ones, where they are known
abbrev pub AreAll : Option (List Placed) → List Placed → Type 0
AreAll None all = ⊤
AreAll (Some records) all = records ≡ all

abbrev pub AreFirst : Option (List Placed) → List Placed → Type 0
AreFirst None first = ⊤
AreFirst (Some records) first = (rest : List Placed) × (records ≡ first ++ rest)

-- the lines of all faults that this holds of, for all records, and whether there is one
abbrev pub AreListed : (List Placed → Faults → Type 0) → Option (List Placed) → Option (List ℕ) → Option (List ℕ) → Bool
    → Type 0
AreListed Are left old new some =
    (records : List Placed) × AreAll left records × (all : Faults) × Are records all × Appends old new (lines_of all)
    × (some ≡ has_some all)

-- a beginning of the lines, for some first records
abbrev pub AreBegun : (List Placed → Faults → Type 0) → Option (List Placed) → Option (List ℕ) → Option (List ℕ)
    → Type 0
AreBegun Are left old new =
    (records : List Placed) × AreFirst left records × (all : Faults) × Are records all × IsBegun old new (lines_of all)

abbrev pub RowsAreListed : Checker → Option (List Placed) → Option (List ℕ) → Option (List ℕ) → Bool → Type 0
RowsAreListed checker left old new some = AreListed (Lists checker) left old new some

abbrev pub RowsAreBegun : Checker → Option (List Placed) → Option (List ℕ) → Option (List ℕ) → Type 0
RowsAreBegun checker left old new = AreBegun (Lists checker) left old new

abbrev pub BelowIsListed : Headed → Option (List Placed) → Option (List ℕ) → Option (List ℕ) → Bool → Type 0
BelowIsListed headed left old new some = AreListed (ListsBelow headed) left old new some

abbrev pub BelowIsBegun : Headed → Option (List Placed) → Option (List ℕ) → Option (List ℕ) → Type 0
BelowIsBegun headed left old new = AreBegun (ListsBelow headed) left old new

abbrev pub LinesAreListed : Asked → Option (List Placed) → Option (List ℕ) → Option (List ℕ) → Bool → Type 0
LinesAreListed asked left old new some = AreListed (AreFaultsOf asked) left old new some

abbrev pub LinesAreBegun : Asked → Option (List Placed) → Option (List ℕ) → Option (List ℕ) → Type 0
LinesAreBegun asked left old new = AreBegun (AreFaultsOf asked) left old new

-- the whole list of the faults of a text was written: its records are those of the text, where that is known
abbrev pub IsListed : Asked → Option (List Placed) → Option (List ℕ) → Option (List ℕ) → Bool → Type 0
IsListed asked left old new some =
    (records : List Placed) × AreAll left records × (all : Faults) × AreFaultsOf asked records all
    × Appends old new (text_of all) × (some ≡ has_some all)

-- a beginning of the list of the faults of some first records was written
abbrev pub IsListBegun : Asked → Option (List Placed) → Option (List ℕ) → Option (List ℕ) → Type 0
IsListBegun asked left old new =
    (records : List Placed) × AreFirst left records × (all : Faults) × AreFaultsOf asked records all
    × IsBegun old new (text_of all)
