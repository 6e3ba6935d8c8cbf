-- A row that is one line: the records that the `csv` crate reads of the line, with its defaults.
use Rattle.std.specs.Prelude.{◌≡◌, ℕ, List, [], ◌∷◌}
use Rattle.csv.specs.Reading.{default_config, records}
use Rattle.hsp_csv.specs.Records.{Fields}
use Rattle.hsp_csv.specs.declared.row_fields.RowFields.{RowFields}
use Rattle.hsp_csv.specs.declared.row_fields.RowFields.TheVariants as lent
use Rattle.hsp_csv.specs.declared.counting.RecordCount.{RecordCount}
use Rattle.hsp_csv.specs.declared.counting.RecordCount.TheVariants as count

-- no record, one record of one or two fields, or anything else
pub data Shape : Type 0 where
  blank : Shape
  one : List ℕ → Shape
  two : List ℕ → List ℕ → Shape
  other : Shape

abbrev pub shape_of_fields : Fields → Shape
shape_of_fields [] = other
shape_of_fields (only ∷ []) = one only
shape_of_fields (first ∷ second ∷ []) = two first second
shape_of_fields (first ∷ second ∷ third ∷ more) = other

abbrev pub shape_of : List Fields → Shape
shape_of [] = blank
shape_of (fields ∷ []) = shape_of_fields fields
shape_of (fields ∷ later ∷ more) = other

-- the row of a line; octets at its start that could be a byte order mark belong to the row
abbrev pub row_of : List ℕ → Shape
row_of line = shape_of (records default_config line)

-- the row of lent fields
abbrev pub row_shown : RowFields → Shape
row_shown lent.Blank = blank
row_shown (lent.One only) = one only.now
row_shown (lent.Two first second) = two first.now second.now
row_shown lent.Other = other

-- how many records there are, and the first of them
abbrev pub IsCounted : List Fields → RecordCount → Fields → Type 0
IsCounted records count.None fields = records ≡ []
IsCounted records count.One fields = records ≡ fields ∷ []
IsCounted records count.More fields = (first second : Fields) × (more : List Fields) × (records ≡ first ∷ second ∷ more)
