-- The rows of logs with counts, and of the logs of `places`, read by themselves.
use Rattle.std.specs.Prelude.{ℕ, [], ◌∷◌, Bool, Option, Some, None, Result, Ok, Err, codes}
use Rattle.hsp_csv.specs.Header.{same_fields}
use Rattle.hsp_csv.specs.Records.{Fields}
use Rattle.hsp_names.specs.Handle.{handle_in}
use Rattle.hsp_text.specs.Answers.{◌>>=◌, or_fault}
use Rattle.hsp_log.specs.LogRows.{handle_or, header_of, parts_in, row_of}
use Rattle.hsp_log.specs.declared.fault.RowFault.{RowFault}
use Rattle.hsp_log.specs.declared.fault.RowFault.TheVariants as fault
use Rattle.hsp_log.specs.declared.form.CountForm.TheVariants.{Counts}

-- the headers `region,handle,count` and `handle`
abbrev pub is_count_header : Fields → Bool
is_count_header first = same_fields first (header_of Counts)

abbrev pub is_handle_header : Fields → Bool
is_handle_header first = same_fields first (codes "handle" ∷ [])

-- the fault of what was read
abbrev pub fault_in : {A : Type 0} → Result A RowFault → Option RowFault
fault_in (Ok read) = None
fault_in (Err why) = Some why

-- the fault of the row of a region, a handle and a count
abbrev pub count_fault : ℕ → Fields → Option RowFault
count_fault row fields = fault_in (or_fault (fault.Fields row) (parts_in Counts fields) >>= row_of row)

-- the fault of the row of a handle
abbrev pub handle_fault : ℕ → Fields → Option RowFault
handle_fault row (handle ∷ []) = fault_in (handle_or row (handle_in handle))
handle_fault row other = Some (fault.Fields row)
