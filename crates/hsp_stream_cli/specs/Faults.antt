-- Faulty rows on an output.
use Rattle.std.specs.Prelude.{◌≡◌, ⊤, Bool, true, false, ℕ, List, Option, None, Some, Ok, Err, option_map}
use Rattle.hsp_csv.specs.Places.{placed_of}
use Rattle.hsp_tables.specs.declared.table_check.TableKind.TheVariants as kind
use Rattle.hsp_cli.specs.Files.{Disk, HoldsRest}
use Rattle.hsp_cli.specs.declared.failure.Failure.{Failure}
use Rattle.hsp_cli.specs.declared.failure.Failure.TheVariants.{Memory, Refused, Write}
use Rattle.hsp_cli_orders.specs.declared.stream_order.FaultsOf.{FaultsOf}
use Rattle.hsp_cli_orders.specs.declared.stream_order.FaultsOf.TheVariants as of
use Rattle.hsp_log.specs.declared.fault.RowFault.TheVariants.{ReadFailed}
use Rattle.hsp_inputs.specs.declared.stream_fault.StreamFault.{StreamFault}
use Rattle.hsp_inputs.specs.declared.stream_fault.StreamFault.TheVariants.{Log}
use Rattle.hsp_stream.specs.Runs.{IsListBegun, IsListed}
use Rattle.hsp_stream.specs.declared.checker.Asked.{Asked}
use Rattle.hsp_stream.specs.declared.checker.Asked.TheVariants as asked
use Rattle.hsp_stream.specs.declared.faulty_rows.FaultsStop.{FaultsStop}
use Rattle.hsp_stream.specs.declared.faulty_rows.FaultsStop.TheVariants as stop
use Rattle.hsp_stream_cli.specs.Printing.{Ended}

-- what is looked at, by the order
abbrev pub asked_for : FaultsOf → Asked
asked_for of.Demand = asked.Table kind.Demand
asked_for of.Costs = asked.Table kind.Costs
asked_for of.Capacity = asked.Table kind.Capacity
asked_for of.Log = asked.Log

-- the failure by which a list stops
abbrev pub stopped_by : FaultsStop → Failure StreamFault
stopped_by stop.ReadFailed = Refused (Log ReadFailed)
stopped_by stop.WriteFailed = Write
stopped_by stop.OutOfMemory = Memory

-- the status after a list that was written whole: whether there is a faulty row
abbrev pub list_status : Bool → ℕ
list_status true = 1
list_status false = 0

-- how such a list ends
abbrev pub ended_with : Bool → Ended
ended_with some = Ok (record { status = list_status some; sums = None })

-- The whole list was written, and the status tells whether there is a faulty row; or a beginning of it was written. A
-- failed read and a failed write are reported only where one may fail.
abbrev pub EndsList : Type 0 → Type 0 → Asked → Option (List ℕ) → Option (List ℕ) → Option (List ℕ) → Ended → Type 0
EndsList MayReadFail MayFail which text old new (Ok completed) =
    (some : Bool) × (completed ≡ record { status = list_status some; sums = None })
    × IsListed which (option_map placed_of text) old new some
EndsList MayReadFail MayFail which text old new (Err Write) =
    MayFail × IsListBegun which (option_map placed_of text) old new
EndsList MayReadFail MayFail which text old new (Err Memory) =
    IsListBegun which (option_map placed_of text) old new
EndsList MayReadFail MayFail which text old new (Err (Refused (Log ReadFailed))) =
    MayReadFail × IsListBegun which (option_map placed_of text) old new
EndsList MayReadFail MayFail which text old new (Err failure) = ⊥

-- whether reads may fail: those of a log may where its file may; a table is read before
abbrev pub ReadsMayFail : Disk → FaultsOf → List ℕ → Type 0
ReadsMayFail disk of.Log file = disk.fails file
ReadsMayFail disk table file = ⊤

-- the octets of the file: of a log those that are left of it, of a table all, which were read first
abbrev pub HoldsText : Disk → FaultsOf → List ℕ → Option (List ℕ) → Type 0
HoldsText disk of.Log file text = HoldsRest disk file text
HoldsText disk table file None = ⊥
HoldsText disk table file (Some octets) = disk.holds file octets
