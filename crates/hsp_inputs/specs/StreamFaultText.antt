-- What hsplan-stream prints of faults, and its statuses.
use Rattle.std.specs.Prelude.{◌++◌, ◌∷◌, [], ℕ, List, codes, decimal}
use Rattle.hsp_inputs.specs.FaultText as input
use Rattle.hsp_inputs.specs.PriceReasons.{reason_word}
use Rattle.hsp_log.specs.declared.fault.RowFault.{RowFault}
use Rattle.hsp_log.specs.declared.fault.RowFault.TheVariants as row
use Rattle.hsp_inputs.specs.declared.stream_fault.StreamFault.{StreamFault}
use Rattle.hsp_inputs.specs.declared.stream_fault.StreamFault.TheVariants as fault

-- a word, and a name and a number, each after a space
abbrev pub numbered : List ℕ → List ℕ → ℕ → List ℕ
numbered word name number = word ++ (codes " " ++ (name ++ (codes " " ++ decimal number)))

-- a word with the number of a row
abbrev pub at_row : List ℕ → ℕ → List ℕ
at_row word number = numbered word (codes "row") number

abbrev pub row_words : RowFault → List ℕ
row_words row.ReadFailed = codes "ReadFailed"
row_words row.WriteFailed = codes "WriteFailed"
row_words row.Header = codes "Header"
row_words (row.Fields number) = at_row (codes "Fields") number
row_words (row.BadName number) = at_row (codes "BadName") number
row_words (row.BadHandle number bad) = at_row (codes "BadHandle") number ++ (codes " " ++ input.handle_words bad)
row_words (row.BadNumber number) = at_row (codes "BadNumber") number
row_words (row.TooManyRegions number) = at_row (codes "TooManyRegions") number

-- a fault without a part, or the part with the fault in it
abbrev pub fault_words : StreamFault → List ℕ
fault_words fault.BadFront = codes "BadFront"
fault_words (fault.Input e) = input.fault_words e
fault_words (fault.Refused reason) = codes "check: " ++ reason_word reason
fault_words fault.TooLarge = codes "plan: TooLarge"
fault_words (fault.Log e) = codes "log: " ++ row_words e
fault_words fault.OutOfMemory = codes "OutOfMemory"

abbrev pub fault_text : StreamFault → List ℕ
fault_text e = codes "hsplan-stream: " ++ (fault_words e ++ 10 ∷ [])

-- 5 for a log that isn't read to its end and for answers that aren't written, 1 for a refused log
abbrev pub row_status : RowFault → ℕ
row_status row.ReadFailed = 5
row_status row.WriteFailed = 5
row_status row.Header = 1
row_status (row.Fields number) = 1
row_status (row.BadName number) = 1
row_status (row.BadHandle number bad) = 1
row_status (row.BadNumber number) = 1
row_status (row.TooManyRegions number) = 1

-- 4 where memory runs out, that of hsplan for a refused file, and 3 for prices that don't fit
abbrev pub status_in : StreamFault → ℕ
status_in fault.BadFront = 1
status_in (fault.Input e) = input.status_in e
status_in (fault.Refused reason) = 3
status_in fault.TooLarge = 1
status_in (fault.Log e) = row_status e
status_in fault.OutOfMemory = 4
