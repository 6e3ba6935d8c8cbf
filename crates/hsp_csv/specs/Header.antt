-- The header of a text: its first record, by the names of its fields.
use Rattle.std.specs.Prelude.{◌≡◌, ◌&&◌, ⊤, Bool, true, false, ℕ, List, [], ◌∷◌, map, Option, Some, None}
use Rattle.std.specs.Borrow.{Bor}
use Rattle.std.specs.Str.{bytes_eq}
use Rattle.csv.specs.Records.{field_at}
use Rattle.csv.specs.declared.reader.Reader.{Reader}
use Rattle.hsp_csv.specs.Records.{Fields, IsKnown, records_left}

-- the names of lent fields
abbrev pub names_in : List (Bor (List ℕ)) → Fields
names_in names = map (λ name. name.now) names

-- two records have the same fields
abbrev pub same_fields : Fields → Fields → Bool
same_fields [] [] = true
same_fields [] (b ∷ bs) = false
same_fields (a ∷ as') [] = false
same_fields (a ∷ as') (b ∷ bs) = bytes_eq a b && same_fields as' bs

-- the field at a place is of the name
abbrev pub is_of : List ℕ → Option (List ℕ) → Bool
is_of name None = false
is_of name (Some field) = bytes_eq field name

abbrev pub is_field : Fields → ℕ → List ℕ → Bool
is_field fields place name = is_of name (field_at fields place)

-- the first record has the fields of a header, and the others are the body
abbrev pub IsHeaded : Fields → List Fields → List Fields → Type 0
IsHeaded header [] body = ⊥
IsHeaded header (first ∷ more) body = (same_fields first header ≡ true) × (more ≡ body)

-- there is no first record, or it has other fields than a header
abbrev pub IsHeadless : Fields → List Fields → Type 0
IsHeadless header [] = ⊤
IsHeadless header (first ∷ more) = same_fields first header ≡ false

-- a read of known octets took the header, or found that the text has another first record or none
abbrev pub TakesHeader : {R : Type 0} → (R → Option (List ℕ)) → Fields → Reader R → Reader R → Bool → Type 0
TakesHeader remaining header old new true =
    IsKnown remaining old
    → IsHeaded header (records_left remaining old) (records_left remaining new) × IsKnown remaining new
TakesHeader remaining header old new false = IsKnown remaining old → IsHeadless header (records_left remaining old)
