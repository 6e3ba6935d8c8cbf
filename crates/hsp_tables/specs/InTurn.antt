-- Rows that are read in turn, each from an item and after the rows of the items before it, up to the first fault.
use Rattle.std.specs.Prelude.{◌≡◌, ◌≤◌, ◌+◌, ◌↔◌, ⊤, Bool, ℕ, List, [], ◌∷◌, ◌++◌, length, nat_le, Result, Ok, Err}
use Rattle.std.specs.Prelude.{if◌then◌else◌}
use Rattle.std.specs.List.{AllByRecursion, IsDistinct, list_any}
use Rattle.hsp_tables.specs.declared.fault.TableFault.{TableFault}
use Rattle.hsp_text.specs.Answers.{◌>>=◌}

-- the row that an item gives after the rows before it, or the first fault that it has there
abbrev pub Reading : Type 0 → Type 0 → Type 0
Reading Item Row = List Row → Item → Result Row TableFault

-- the rows, and that of a further item
abbrev pub with_row : {Item Row : Type 0} → Reading Item Row → List Row → Item → Result (List Row) TableFault
with_row read earlier item = read earlier item >>= λ row. Ok (earlier ++ row ∷ [])

-- the rows, and those of further items, or the first fault
abbrev pub rows_after : {Item Row : Type 0} → Reading Item Row → List Row → List Item → Result (List Row) TableFault
rows_after read earlier [] = Ok earlier
rows_after read earlier (item ∷ more) = with_row read earlier item >>= λ rows. rows_after read rows more

-- a fault is decided by the items up to it: whatever items follow, it stays
abbrev pub FaultStays : {Item Row : Type 0} → Reading Item Row → Type 0
FaultStays {Item} read =
    (items more : List Item) (fault : TableFault) → rows_after read [] items ≡ Err fault
    → rows_after read [] (items ++ more) ≡ Err fault

-- the row that an item spells by its number, where it is not one too many and has a new key
abbrev pub keyed_after : {Item Row : Type 0} → ℕ → TableFault → (ℕ → Item → Result Row TableFault)
    → (Row → Row → Bool) → (ℕ → TableFault) → Reading Item Row
keyed_after most many row_in same_key twice earlier item =
    if nat_le most (length earlier) then Err many
    else row_in (length earlier) item >>= λ row. if list_any (same_key row) earlier
    then Err (twice (length earlier)) else Ok row

-- items spell rows, each by its number
abbrev pub SpellInTurn : {Item Row : Type 0} → (ℕ → Item → Result Row TableFault) → ℕ → List Item → List Row → Type 0
SpellInTurn row_in number [] [] = ⊤
SpellInTurn row_in number [] (row ∷ rows) = ⊥
SpellInTurn row_in number (item ∷ more) [] = ⊥
SpellInTurn row_in number (item ∷ more) (row ∷ rows) =
    (row_in number item ≡ Ok row) × SpellInTurn row_in (number + 1) more rows

-- as a relation: items spell exactly these rows, which are within the limit, no two with the same key
pub record SpellKeyed {Item Row : Type 0} (most : ℕ) (row_in : ℕ → Item → Result Row TableFault)
    (same_key : Row → Row → Bool) (items : List Item) (rows : List Row) : Type 0 where
  pub spelled : SpellInTurn row_in 0 items rows
  pub few : length rows ≤ most
  pub apart : IsDistinct same_key rows

-- the reading is the relation: items give exactly the rows that they spell
abbrev pub ReadsAsSpelled : {Item Row : Type 0} → ℕ → (ℕ → Item → Result Row TableFault) → (Row → Row → Bool)
    → Reading Item Row → Type 0
ReadsAsSpelled {Item} {Row} most row_in same_key read =
    (items : List Item) (rows : List Row)
    → (rows_after read [] items ≡ Ok rows) ↔ SpellKeyed most row_in same_key items rows

-- at most `most` rows, each as it should be, and no two with the same key
pub record AreKeyed {Row : Type 0} (most : ℕ) (Is : Row → Type 0) (same_key : Row → Row → Bool) (rows : List Row) :
    Type 0 where
  pub few : length rows ≤ most
  pub each : AllByRecursion Is rows
  pub apart : IsDistinct same_key rows
