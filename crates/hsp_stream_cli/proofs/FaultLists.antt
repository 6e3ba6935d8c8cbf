-- Lists of faulty rows that are handed on.
use Rattle.std.proofs.Common.{◌≡◌, ◌≢◌, ◌⊎◌, ◌∙◌, inl, inr, ℕ, Bool, List, [], Option, Some, None, Ok, Err, option_map}
use Rattle.std.proofs.Common.{refl, sym, take}
use Rattle.std.proofs.lemmas.List.{append-nil}
use Rattle.std.specs.Prelude.{⊤}
use Rattle.std.specs.Io.KnownBytes.{Appends, Keeps}
use Rattle.hsp_csv.specs.Places.{Placed, placed_of}
use Rattle.hsp_cli.specs.Files.{Disk}
use Rattle.hsp_cli.specs.declared.failure.Failure.TheVariants as failure
use Rattle.hsp_cli.specs.declared.failure.Failure.TheVariants.{Write}
use Rattle.hsp_cli_orders.specs.declared.stream_order.FaultsOf.{FaultsOf}
use Rattle.hsp_cli_orders.specs.declared.stream_order.FaultsOf.TheVariants as of
use Rattle.hsp_stream.specs.FaultLines.{text_of}
use Rattle.hsp_stream.specs.Runs.{AreAll, AreFirst, IsListBegun, IsListed, MayStop}
use Rattle.hsp_stream.specs.declared.checker.Asked.{Asked}
use Rattle.hsp_stream.specs.declared.faulty_rows.FaultsStop.{FaultsStop}
use Rattle.hsp_stream.specs.declared.faulty_rows.FaultsStop.TheVariants as stop
use Rattle.hsp_stream.proofs.Listing.{begun_whole}
use Rattle.hsp_stream_cli.specs.Faults.{EndsList, HoldsText, ReadsMayFail, ended_with, stopped_by}
use Rattle.hsp_stream_cli.specs.Printing.{Ended}
use Rattle.hsp_log.specs.declared.fault.RowFault.TheVariants as row
use Rattle.hsp_inputs.specs.declared.stream_fault.StreamFault.TheVariants as fault

-- what was written is kept
appends_kept : (old middle new : Option (List ℕ)) (text : List ℕ) → Appends old middle text → Keeps middle new
    → Appends old new text
appends_kept None middle new text wrote kept = tt
appends_kept (Some x) None new text wrote kept = absurd wrote
appends_kept (Some x) (Some y) None text wrote kept = absurd kept
appends_kept (Some x) (Some y) (Some z) text wrote kept = kept ∙ wrote

-- all records are first ones
all_are_first : (left : Option (List Placed)) (records : List Placed) → AreAll left records → AreFirst left records
all_are_first None records whole = tt
all_are_first (Some all) records whole = ([], whole ∙ sym (append-nil records))

-- a whole list is a beginning of it
begun_list : (asked : Asked) (left : Option (List Placed)) (old new : Option (List ℕ)) (some : Bool)
    → IsListed asked left old new some → IsListBegun asked left old new
begun_list asked left old new some (records, whole, all, are, wrote, tells) =
    (records, all_are_first left records whole, all, are, begun_whole old new (text_of all) wrote)

module _ (MayReadFail MayFail : Type 0) (asked : Asked) (text old middle new : Option (List ℕ)) (ended : Ended) where
  -- a list that was written whole is handed on, or that fails
  pub list_ends : (some : Bool) → IsListed asked (option_map placed_of text) old middle some → Keeps middle new
      → (ended ≡ ended_with some) ⊎ (MayFail × (ended ≡ Err Write))
      → EndsList MayReadFail MayFail asked text old new ended
  list_ends some (records, whole, all, are, wrote, tells) kept (inl is) =
      rw is (some, refl, (records, whole, all, are, appends_kept old middle new (text_of all) wrote kept, tells))
  list_ends some (records, whole, all, are, wrote, tells) kept (inr (may, is)) =
      let listed : IsListed asked (option_map placed_of text) old new some =
      (records, whole, all, are, appends_kept old middle new (text_of all) wrote kept, tells) in
      rw is (may, begun_list asked (option_map placed_of text) old new some listed)

  -- so is a beginning of it
  pub failed_ends : (by : FaultsStop) → MayStop MayReadFail MayFail by
      → IsListBegun asked (option_map placed_of text) old middle → Keeps middle new
      → (ended ≡ Err (stopped_by by)) ⊎ (MayFail × (ended ≡ Err Write))
      → EndsList MayReadFail MayFail asked text old new ended
  failed_ends by may (records, first, all, are, (count, wrote)) kept is =
      let begun : IsListBegun asked (option_map placed_of text) old new =
      (records, first, all, are, (count, appends_kept old middle new (take count (text_of all)) wrote kept)) in
      ends_as by may begun is
    where
      ends_as : (by : FaultsStop) → MayStop MayReadFail MayFail by
          → IsListBegun asked (option_map placed_of text) old new
          → (ended ≡ Err (stopped_by by)) ⊎ (MayFail × (ended ≡ Err Write))
          → EndsList MayReadFail MayFail asked text old new ended
      ends_as by may begun (inr (fails, is)) = rw is (fails, begun)
      ends_as stop.ReadFailed may begun (inl is) = rw is (may, begun)
      ends_as stop.WriteFailed may begun (inl is) = rw is (may, begun)
      ends_as stop.OutOfMemory may begun (inl is) = rw is begun

-- the octets of a table
pub holds_table : (disk : Disk) (table : FaultsOf) (file octets : List ℕ) → table ≢ of.Log → disk.holds file octets
    → HoldsText disk table file (Some octets)
holds_table disk of.Demand file octets other holds = holds
holds_table disk of.Costs file octets other holds = holds
holds_table disk of.Capacity file octets other holds = holds
holds_table disk of.Log file octets other holds = absurd (other refl)

-- what is true of a reader that may fail is true where its file may
pub ends_weaker : (MayReadFail DiskFails MayFail : Type 0) (asked : Asked) (text old new : Option (List ℕ))
    (ended : Ended) → (MayReadFail → DiskFails) → EndsList MayReadFail MayFail asked text old new ended
    → EndsList DiskFails MayFail asked text old new ended
ends_weaker MayReadFail DiskFails MayFail asked text old new (Ok completed) weaker ends = ends
ends_weaker MayReadFail DiskFails MayFail asked text old new (Err failure.Write) weaker ends = ends
ends_weaker MayReadFail DiskFails MayFail asked text old new (Err failure.Memory) weaker ends = ends
ends_weaker MayReadFail DiskFails MayFail asked text old new (Err (failure.Refused (fault.Log row.ReadFailed))) weaker
    (may, begun) = (weaker may, begun)
ends_weaker MayReadFail DiskFails MayFail asked text old new (Err failed) weaker ends = absurd ends

-- no contract says that octets in memory may not fail to be read
pub table_reads : (disk : Disk) (table : FaultsOf) (file : List ℕ) → table ≢ of.Log → ⊤ → ReadsMayFail disk table file
table_reads disk of.Demand file other may = tt
table_reads disk of.Costs file other may = tt
table_reads disk of.Capacity file other may = tt
table_reads disk of.Log file other may = absurd (other refl)
