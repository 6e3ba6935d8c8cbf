-- The rows of a log.
use Rattle.std.specs.Prelude.{◌≡◌, ⊤, ℕ, List, [], ◌∷◌, codes, Option, None, Some, Result, Ok, Err, IfSome}
use Rattle.std.specs.Prelude.{if◌then◌else◌}
use Rattle.csv.specs.declared.reader.Reader.{Reader}
use Rattle.hsp_csv.specs.Records.{Fields, IsKnown, records_left, records_of}
use Rattle.hsp_names.specs.Handle as names
use Rattle.hsp_names.specs.declared.fault.HandleFault.{HandleFault}
use Rattle.hsp_text.specs.Answers.{◌>>=◌}
use Rattle.hsp_text.specs.Name.{is_name}
use Rattle.hsp_text.specs.Whole.{whole_within}
use Rattle.hsp_text.specs.declared.whole.WholeFault.{WholeFault}
use Rattle.hsp_instance.specs.Instance.{Row}
use Rattle.hsp_log.specs.declared.fault.RowFault.{RowFault}
use Rattle.hsp_log.specs.declared.fault.RowFault.TheVariants as fault
use Rattle.hsp_log.specs.declared.form.CountForm.{CountForm}
use Rattle.hsp_log.specs.declared.form.CountForm.TheVariants.{Counts, Ones}
use Rattle.hsp_log.specs.declared.log_rows.TheConstants.{GREATEST_ROW_COUNT}

-- ---- the header

abbrev pub header_of : CountForm → Fields
header_of Ones = codes "region" ∷ codes "handle" ∷ []
header_of Counts = codes "region" ∷ codes "handle" ∷ codes "count" ∷ []

-- ---- a row

-- the fields of a row: its count may be left out
pub record Parts : Type 0 where
  pub region : List ℕ
  pub handle : List ℕ
  pub count : Option (List ℕ)

-- the fields of a record, where there are as many as the header has
abbrev pub parts_in : CountForm → Fields → Option Parts
parts_in Ones (region ∷ handle ∷ []) = Some (record { region = region; handle = handle; count = None })
parts_in Counts (region ∷ handle ∷ count ∷ []) = Some (record { region = region; handle = handle; count = Some count })
parts_in form _ = None

abbrev pub name_in : ℕ → List ℕ → Result (List ℕ) RowFault
name_in row octets = if is_name octets then Ok octets else Err (fault.BadName row)

abbrev pub handle_or : ℕ → Result (List ℕ) HandleFault → Result (List ℕ) RowFault
handle_or row (Ok handle) = Ok handle
handle_or row (Err e) = Err (fault.BadHandle row e)

abbrev pub count_or : ℕ → Result ℕ WholeFault → Result ℕ RowFault
count_or row (Ok count) = Ok count
count_or row (Err e) = Err (fault.BadNumber row)

-- the count of a row is 1 where it is left out
abbrev pub count_in : ℕ → Option (List ℕ) → Result ℕ RowFault
count_in row None = Ok 1
count_in row (Some octets) = count_or row (whole_within GREATEST_ROW_COUNT octets)

-- the row that fields spell, or their first fault
abbrev pub row_of : ℕ → Parts → Result Row RowFault
row_of row parts =
    name_in row parts.region >>= λ region.
    handle_or row (names.handle_in parts.handle) >>= λ handle.
    count_in row parts.count >>= λ count.
    Ok (record { region = region; handle = handle; count = count })

-- a record spells a row, whatever its number
pub record Spells (form : CountForm) (fields : Fields) (row : Row) : Type 0 where
  pub parts : Parts
  pub are : Some parts ≡ parts_in form fields
  pub row_is : (n : ℕ) → row_of n parts ≡ Ok row

-- records spell rows
abbrev pub SpellRows : CountForm → List Fields → List Row → Type 0
SpellRows form [] [] = ⊤
SpellRows form [] (row ∷ rows) = ⊥
SpellRows form (fields ∷ more) [] = ⊥
SpellRows form (fields ∷ more) (row ∷ rows) = Spells form fields row × SpellRows form more rows

-- the records of a log spell rows: the first is the header, and each later one spells a row
abbrev pub SpellsLog : List Fields → List Row → Type 0
SpellsLog records rows =
    (form : CountForm) × (body : List Fields) × (records ≡ header_of form ∷ body) × SpellRows form body rows

-- ---- reading

-- it is so of the records that a reader has left; of a reader whose octets are not known, of some records
abbrev pub OfLeft : {R : Type 0} → (R → Option (List ℕ)) → Reader R → (List Fields → Type 0) → Type 0
OfLeft remaining reader Is =
    (records : List Fields) × (IsKnown remaining reader → records ≡ records_left remaining reader) × Is records

-- it is so of the records of a log; of one whose octets are not known, of some records
abbrev pub OfLog : Option (List ℕ) → (List Fields → Type 0) → Type 0
OfLog log Is = (records : List Fields) × IfSome log (λ octets. records ≡ records_of octets) × Is records
