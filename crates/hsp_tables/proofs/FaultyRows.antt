-- The faulty rows of a table.
use Rattle.std.proofs.Common.{◌≡◌, ◌≢◌, ◌∙◌, ◌⊎◌, inl, inr, ℕ, Bool, List, [], ◌∷◌, length, Option, Some, None, Result}
use Rattle.std.proofs.Common.{Ok, Err, refl, sym, arith}
use Rattle.std.proofs.Common.{IfOk, OnOk}
use Rattle.hsp_csv.specs.Found.{listed}
use Rattle.hsp_csv.specs.Places.{Placed}
use Rattle.hsp_csv.specs.Records.{Fields}
use Rattle.hsp_csv.specs.declared.found.Checked.{Checked}
use Rattle.hsp_csv.specs.declared.found.Checked.TheVariants.{Faulty, Last}
use Rattle.hsp_tables.specs.declared.fault.TableFault.{TableFault}
use Rattle.hsp_tables.specs.declared.fault.TableFault.TheVariants.{TooManyRows}
use Rattle.hsp_tables.specs.Faulty.{checked_as, faulty_rows, field_at_fault, first_bad, found_at, next_row, with_good}
use Rattle.hsp_tables.specs.InTurn.{Reading, with_row}
use Rattle.hsp_tables.specs.Table.{Table, row_at}

-- a record of more fields or fewer has no field at fault
pub no_field : (is_good : ℕ → List ℕ → Bool) (fields : Fields) → length fields ≢ 3 → first_bad is_good fields ≡ None
no_field is_good [] other = refl
no_field is_good (a ∷ []) other = refl
no_field is_good (a ∷ b ∷ []) other = refl
no_field is_good (a ∷ b ∷ c ∷ []) other = absurd (other refl)
no_field is_good (a ∷ b ∷ c ∷ d ∷ more) other = refl

-- what a record with a fault is
checked_by_fault : {Row : Type 0} (table : Table Row) (number : ℕ) (one : Placed) (fault : TableFault)
    → fault ≢ TooManyRows
    → checked_as table number one (Err fault)
    ≡ Faulty (found_at number one fault (field_at_fault table fault one.fields))
checked_by_fault table number one TooManyRows other = absurd (other refl)
checked_by_fault table number one fault other = refl

-- a row that is refused is listed with its fault, its number and its field
pub checked_faulty : {Row : Type 0} (table : Table Row) (number : ℕ) (one : Placed) (read : Result Row TableFault)
    (fault : TableFault) → fault ≢ TooManyRows
    → read ≡ Err fault
    → checked_as table number one read ≡ Faulty (found_at number one fault (field_at_fault table fault one.fields))
checked_faulty table number one read fault other e = rw e (checked_by_fault table number one fault other)

-- a refused record of a table without its rows
pub refused_alone : {Item Row : Type 0} (read : Reading Item Row) (earlier : List Row) (item : Item)
    (fault : TableFault)
    → with_row read earlier item ≡ Err fault → read earlier item ≡ Err fault
refused_alone read earlier item fault e = grind arith

-- what is not for want of memory
pub not_memory : {A B : Type 0} → A ⊎ B → (A → ⊥) → B
not_memory (inl a) other = absurd (other a)
not_memory (inr b) other = b

-- a record with a fault adds no row
pub none_added : {Row : Type 0} (earlier : List Row) (read : Result Row TableFault) (fault : TableFault)
    → read ≡ Err fault
    → earlier ≡ with_good earlier read
none_added earlier read fault e = rw e refl

-- the faults from a record on, by what the record is
pub checked_then : {Row E : Type 0} (table : Table Row) (number row : ℕ) (earlier rows : List Row) (one : Placed)
    (result : Result (Checked TableFault) E)
    → IfOk result (λ checked. checked ≡ checked_as table number one (row_at table number earlier one.fields))
    → OnOk result (rows ≡ with_good earlier (row_at table number earlier one.fields))
    → OnOk result (row ≡ next_row number)
    → IfOk result (λ checked. (more : List Placed)
    → faulty_rows table number earlier (one ∷ more) ≡ listed checked (faulty_rows table row rows more))
unfolding faulty_rows
checked_then table number row earlier rows one (Ok checked) is kept next = λ more. rw (is, kept, next) refl
checked_then table number row earlier rows one (Err lacking) is kept next = tt
