-- The records of a text of comma-separated values, as the `csv` crate states its reading, and those that a reader has
-- left.
use Rattle.std.specs.Prelude.{◌≡◌, ◌+◌, Bool, true, false, ℕ, List, [], ◌∷◌, length, Option, Some, None, IsSome}
use Rattle.csv.specs.Reading.{Ready, default_config, is_flexible, reader_config, reader_state, reader_trim, records}
use Rattle.csv.specs.Reading.{records_from, source_of, strip_bom}
use Rattle.csv.specs.declared.parser.State.{State}
use Rattle.csv.specs.declared.reader.Reader.{Reader}
use Rattle.csv.specs.declared.reader.Trim.TheVariants as trim

-- a record is the list of its fields, and each field a list of octets
abbrev pub Fields : Type 0
Fields = List (List ℕ)

-- the records of a text: the crate's with its defaults, after a byte order mark at the start
abbrev pub records_of : List ℕ → List Fields
records_of text = records default_config (strip_bom text)

-- the records of the octets that are left, from the state that the reading is in
abbrev pub records_from_state : State → Option (List ℕ) → List Fields
records_from_state state None = []
records_from_state state (Some octets) = records_from default_config (length octets + 1) state octets

-- the octets that a reader has left are known
abbrev pub IsKnown : {R : Type 0} → (R → Option (List ℕ)) → Reader R → Type 0
IsKnown remaining reader = IsSome (source_of remaining reader)

-- the records that a reader has left, where its octets are known
abbrev pub records_left : {R : Type 0} → (R → Option (List ℕ)) → Reader R → List Fields
records_left remaining reader = records_from_state (reader_state reader) (source_of remaining reader)

-- a reader that takes records without a header of its own, of any number of fields, untrimmed, and by the defaults
pub record IsReading {R : Type 0} (reader : Reader R) : Type 0 where
  pub ready : Ready reader
  pub untrimmed : reader_trim reader ≡ trim.None
  pub by_default : reader_config reader ≡ default_config
  pub flexible : is_flexible reader ≡ true

-- a read of known octets took the first of the records that were left, or found that none was left
abbrev pub TakesRecord : {R : Type 0} → (R → Option (List ℕ)) → Reader R → Reader R → Bool → Fields → Type 0
TakesRecord remaining old new true fields =
    IsKnown remaining old → (records_left remaining old ≡ fields ∷ records_left remaining new) × IsKnown remaining new
TakesRecord remaining old new false fields = IsKnown remaining old → records_left remaining old ≡ []
