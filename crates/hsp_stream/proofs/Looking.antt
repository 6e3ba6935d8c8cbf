-- A record is looked at.
use Rattle.std.proofs.Common.{◌≡◌, ℕ, List, [], ◌∷◌, Option, None, Some, map, refl}
use Rattle.csv.specs.Records.{field_at}
use Rattle.hsp_csv.specs.Found.{listed}
use Rattle.hsp_csv.specs.Places.{Placed}
use Rattle.hsp_csv.specs.Records.{Fields}
use Rattle.hsp_csv.specs.declared.found.Checked.{Checked}
use Rattle.hsp_csv.specs.declared.found.Checked.TheVariants.{Faulty, Good, Last}
use Rattle.hsp_csv.specs.declared.found.Found.{Found}
use Rattle.hsp_log.specs.declared.form.LogForm.{LogForm}
use Rattle.hsp_tables.specs.TableChecks.{faulty_from}
use Rattle.hsp_tables.specs.declared.fault.TableFault.{TableFault}
use Rattle.hsp_tables.specs.declared.table_check.TableCheck.{TableCheck}
use Rattle.hsp_tables.specs.declared.table_check.TableKind.{TableKind}
use Rattle.hsp_log.specs.RowFaults.{count_fault}
use Rattle.hsp_inputs.specs.declared.stream_fault.StreamFault.{StreamFault}
use Rattle.hsp_stream.specs.Checkers.{LooksAt, checked_named}
use Rattle.hsp_stream.specs.Faulty.{Continues, IsDispatched, counted, handled, named, next_of_32, next_of_64, region_in}
use Rattle.hsp_stream.specs.Faulty.{regions_behind}
use Rattle.hsp_stream.specs.declared.checker.Checker.TheVariants as checker

-- what goes on with known faults is a list of them
continues_listed : (checked : Checked StreamFault) (more all : List (Found StreamFault))
    → Continues checked (λ rest. rest ≡ more) all → all ≡ listed checked more
continues_listed Good more all is = is
continues_listed (Faulty found) more all (rest, is, whole) = rw (whole, is) refl
continues_listed (Last found) more all is = is

-- the faults of a table by its name
named_listed : (kind : TableKind) (checked : Checked TableFault) (more : List (Found TableFault))
    → map (named kind) (listed checked more) ≡ listed (checked_named kind checked) (map (named kind) more)
named_listed kind Good more = refl
named_listed kind (Faulty found) more = refl
named_listed kind (Last found) more = refl

-- a look at a row of a table goes on as the table's faulty rows do
pub table_looks : (kind : TableKind) (old new : TableCheck) (one : Placed) (checked : Checked TableFault)
    → ((more : List Placed) → faulty_from old (one ∷ more) ≡ listed checked (faulty_from new more))
    → LooksAt (checker.Table kind old) one (checker.Table kind new) (checked_named kind checked)
table_looks kind old new one checked is more all goes =
    rw (is more, named_listed kind checked (faulty_from new more))
    (continues_listed (checked_named kind checked) (map (named kind) (faulty_from new more)) all goes)

-- a look at a row of a log for a run of hsplan goes on as the definition does
pub dispatched_looks : (form : LogForm) (row next : ℕ) (one : Placed) (checked : Checked StreamFault)
    → IsDispatched form row one checked → next ≡ next_of_32 row
    → LooksAt (checker.Dispatched form row) one (checker.Dispatched form next) checked
dispatched_looks form row next one checked is after more all goes = (checked, is, rw after at goes)

-- so does a look at a row that counts
pub counted_looks : (regions behind : List (List ℕ)) (row next : ℕ) (one : Placed) (checked : Checked StreamFault)
    → checked ≡ counted regions row one
    → behind ≡ regions_behind regions one.fields (count_fault row one.fields)
    → next ≡ next_of_64 row → LooksAt (checker.Counted row regions) one (checker.Counted next behind) checked
counted_looks regions behind row next one checked is named after more all goes =
    rw (← is, ← named, ← after) (continues_listed checked _ all goes)

-- so does a look at a row of handles
pub handled_looks : (row next : ℕ) (one : Placed) (checked : Checked StreamFault) → checked ≡ handled row one
    → next ≡ next_of_64 row → LooksAt (checker.Handles row) one (checker.Handles next) checked
handled_looks row next one checked is after more all goes =
    rw (← is, ← after) (continues_listed checked _ all goes)

-- the first field of a row is its region
pub first_field : (fields : Fields) (region : List ℕ) → Some region ≡ field_at fields 0 → region ≡ region_in fields
unfolding field_at
first_field [] region e = cc (e)
first_field (field ∷ fields) region e = cc (e)

-- a row without fields names none
pub no_field : (fields : Fields) → ◌≡◌ {A = Option (List ℕ)} None (field_at fields 0) → [] ≡ region_in fields
unfolding field_at
no_field [] e = refl
no_field (field ∷ fields) e = cc (e)
