-- The rows that the records of a log spell, in their order, or the log's first fault.
use Rattle.std.specs.Prelude.{◌+◌, ◌++◌, ℕ, List, [], ◌∷◌, length, nat_le, Result, Ok, Err, if◌then◌else◌}
use Rattle.hsp_csv.specs.Records.{Fields}
use Rattle.hsp_text.specs.Answers.{◌>>=◌, or_fault, fault_as}
use Rattle.hsp_text.specs.declared.limits.TheConstants.{MOST_LOG_REGIONS}
use Rattle.hsp_instance.specs.Instance.{Row, regions_of}
use Rattle.hsp_log.specs.LogRows.{parts_in, row_of, header_of}
use Rattle.hsp_log.specs.declared.fault.RowFault.TheVariants as fault
use Rattle.hsp_inputs.specs.declared.stream_fault.StreamFault.{StreamFault}
use Rattle.hsp_inputs.specs.declared.stream_fault.StreamFault.TheVariants.{Log}
use Rattle.hsp_log.specs.declared.form.CountForm.{CountForm}
use Rattle.hsp_csv.specs.Header.{same_fields}
use Rattle.hsp_log.specs.declared.form.CountForm.TheVariants.{Counts, Ones}

-- the form of a log by its first record
abbrev pub form_of : Fields → Result CountForm StreamFault
form_of first =
    if same_fields first (header_of Ones) then Ok Ones
    else if same_fields first (header_of Counts) then Ok Counts
    else Err (Log fault.Header)

-- the row that a record spells, or its first fault
abbrev pub row_in : CountForm → ℕ → Fields → Result Row StreamFault
row_in form n fields =
    or_fault (Log (fault.Fields n)) (parts_in form fields) >>= λ parts. fault_as Log (row_of n parts)

-- rows and one more, where they name no more regions than they may
abbrev pub with_row : ℕ → List Row → Row → Result (List Row) StreamFault
with_row n rows row =
    if nat_le (length (regions_of (rows ++ row ∷ []))) MOST_LOG_REGIONS then Ok (rows ++ row ∷ [])
    else Err (Log (fault.TooManyRegions n))

-- rows and that of a record
abbrev pub with_record : CountForm → ℕ → List Row → Fields → Result (List Row) StreamFault
with_record form n rows fields = row_in form n fields >>= with_row n rows

-- rows and those of records, which are numbered from n on
abbrev pub rows_with : CountForm → ℕ → List Row → List Fields → Result (List Row) StreamFault
rows_with form n rows [] = Ok rows
rows_with form n rows (fields ∷ more) =
    with_record form n rows fields >>= λ next. rows_with form (n + 1) next more

-- the rows of a log
abbrev pub log_rows : List Fields → Result (List Row) StreamFault
log_rows [] = Err (Log fault.Header)
log_rows (first ∷ body) = form_of first >>= λ form. rows_with form 0 [] body
