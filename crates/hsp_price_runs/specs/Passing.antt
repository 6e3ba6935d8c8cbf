-- What takes the rows of a log, row by row. Of a taker it is known what it means that it has taken rows since it was
-- another.
use Rattle.std.specs.Prelude.{◌≡◌, ◌++◌, ◌≤◌, ℕ, List, [], ◌∷◌, Result, Ok, length}
use Rattle.hsp_csv.specs.Records.{Fields}
use Rattle.hsp_text.specs.declared.limits.TheConstants.{MOST_LOG_REGIONS}
use Rattle.hsp_instance.specs.Instance.{Row, regions_of}
use Rattle.hsp_price_check.specs.Checking.{HasTooMany}
use Rattle.hsp_price_check.specs.declared.fault.PassFault.{PassFault}
use Rattle.hsp_price_check.specs.declared.fault.PassFault.TheVariants as pass
use Rattle.hsp_log.specs.declared.fault.RowFault.TheVariants as fault
use Rattle.hsp_inputs.specs.declared.stream_fault.StreamFault.{StreamFault}
use Rattle.hsp_inputs.specs.declared.stream_fault.StreamFault.TheVariants.{Log, OutOfMemory}
use Rattle.hsp_log.specs.declared.form.CountForm.{CountForm}
use Rattle.hsp_price_runs.specs.LogRows.{row_in}

-- the fault of a row that can't be taken
abbrev pub fault_of_pass : ℕ → PassFault → StreamFault
fault_of_pass row pass.TooManyRegions = Log (fault.TooManyRegions row)
fault_of_pass row pass.OutOfMemory = OutOfMemory

-- it has taken some rows since it was another
abbrev pub IsOverSome : {X : Type 0} → (X → List Row → X → Type 0) → X → Type 0
IsOverSome {X} HasTaken now = (first : X) × (rows : List Row) × HasTaken first rows now

-- it has taken one row more, which makes no region too many
abbrev pub Takes : {X : Type 0} → (X → List Row → X → Type 0) → Row → X → X → Type 0
Takes {X} HasTaken row old new =
    (first : X) (rows : List Row) → HasTaken first rows old
    → HasTaken first (rows ++ row ∷ []) new × (length (regions_of (rows ++ row ∷ [])) ≤ MOST_LOG_REGIONS)

-- the row makes a region too many
abbrev pub StopsAt : {X : Type 0} → (X → List Row → X → Type 0) → Row → X → PassFault → Type 0
StopsAt {X} HasTaken row old fault =
    (fault ≡ pass.TooManyRegions)
    × ((first : X) (rows : List Row) → HasTaken first rows old → HasTooMany (rows ++ row ∷ []))

-- a record spells a row, and it was taken
pub record TakesRecord {X : Type 0} (HasTaken : X → List Row → X → Type 0) (form : CountForm) (n : ℕ)
    (fields : Fields) (old new : X) : Type 0 where
  pub row : Row
  pub spelled : row_in form n fields ≡ Ok row
  pub takes : Takes HasTaken row old new

-- there are rows, and they were taken
pub record TakesRows {X : Type 0} (HasTaken : X → List Row → X → Type 0) (all : Result (List Row) StreamFault)
    (old new : X) : Type 0 where
  pub rows : List Row
  pub are : all ≡ Ok rows
  pub taken : HasTaken old rows new
