-- What the fields of a record spell, by the number of the record's row.
use Rattle.std.specs.Prelude.{◌≡◌, ◌≢◌, ℕ, List, [], ◌∷◌, length, refl, Option, Some, Result, Ok, Err, if◌then◌else◌}
use Rattle.std.specs.Borrow.{Bor}
use Rattle.hsp_csv.specs.Records as csv
use Rattle.hsp_names.specs.Handle as names
use Rattle.hsp_names.specs.declared.fault.HandleFault.{HandleFault}
use Rattle.hsp_text.specs.Name.{is_name}
use Rattle.hsp_text.specs.Whole.{whole_within}
use Rattle.hsp_text.specs.declared.whole.WholeFault.{WholeFault}
use Rattle.hsp_tables.specs.declared.fault.TableFault.{TableFault}
use Rattle.hsp_tables.specs.declared.fault.TableFault.TheVariants as fault

-- lent octets, as what a reader has left of them
abbrev pub lent : Bor (List ℕ) → Option (List ℕ)
lent text = Some text.now

-- the name of a region or a site
abbrev pub name_in : ℕ → List ℕ → Result (List ℕ) TableFault
name_in row octets = if is_name octets then Ok octets else Err (fault.BadName row)

abbrev pub handle_or : ℕ → Result (List ℕ) HandleFault → Result (List ℕ) TableFault
handle_or row (Ok handle) = Ok handle
handle_or row (Err why) = Err (fault.BadHandle row why)

-- a handle
abbrev pub handle_in : ℕ → List ℕ → Result (List ℕ) TableFault
handle_in row octets = handle_or row (names.handle_in octets)

abbrev pub number_or : ℕ → Result ℕ WholeFault → Result ℕ TableFault
number_or row (Ok number) = Ok number
number_or row (Err why) = Err (fault.BadNumber row)

-- a whole number of at most `most`
abbrev pub number_in : ℕ → ℕ → List ℕ → Result ℕ TableFault
number_in row most octets = number_or row (whole_within most octets)

-- the greatest number of 32 bits, as identifiers of servers and indices of values have
abbrev pub greatest_of_32_bits : ℕ
greatest_of_32_bits = 4294967295

-- the row that three fields spell by its number, of a record that has three
abbrev pub of_three : {Row : Type 0} → (ℕ → List ℕ → List ℕ → List ℕ → Result Row TableFault) → ℕ → csv.Fields
    → Result Row TableFault
of_three read row (first ∷ second ∷ third ∷ []) = read row first second third
of_three read row _ = Err (fault.Fields row)

-- a record of more fields or fewer spells none
pub not_three :
    {Row : Type 0} (read : ℕ → List ℕ → List ℕ → List ℕ → Result Row TableFault) (row : ℕ) (fields : csv.Fields)
    → length fields ≢ 3 → of_three read row fields ≡ Err (fault.Fields row)
not_three read row [] other = refl
not_three read row (a ∷ []) other = refl
not_three read row (a ∷ b ∷ []) other = refl
not_three read row (a ∷ b ∷ c ∷ []) other = absurd (other refl)
not_three read row (a ∷ b ∷ c ∷ d ∷ more) other = refl
