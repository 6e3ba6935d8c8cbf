-- A record of a log, as the row that it spells.
use Rattle.std.proofs.Common.{◌≡◌, ◌∙◌, ◌≤◌, ◌+◌, ◌++◌, ◌⊎◌, inl, inr, ℕ, List, [], ◌∷◌, length, Option, Some, Result}
use Rattle.std.proofs.Common.{Ok, Err, ap, refl, sym}
use Rattle.hsp_csv.specs.Records.{Fields}
use Rattle.hsp_text.specs.Answers.{◌>>=◌, or_fault, fault_as}
use Rattle.hsp_text.specs.declared.limits.TheConstants.{MOST_LOG_REGIONS}
use Rattle.hsp_text.proofs.Steps.{le_true, le_false}
use Rattle.hsp_instance.specs.Instance.{Row, regions_of}
use Rattle.hsp_price_check.specs.Checking.{HasTooMany}
use Rattle.hsp_price_check.specs.declared.fault.PassFault.{PassFault}
use Rattle.hsp_price_check.specs.declared.fault.PassFault.TheVariants as pass
use Rattle.hsp_log.specs.LogRows.{Parts, parts_in, row_of}
use Rattle.hsp_log.specs.declared.fault.RowFault.{RowFault}
use Rattle.hsp_log.specs.declared.fault.RowFault.TheVariants as fault
use Rattle.hsp_inputs.specs.declared.stream_fault.StreamFault.{StreamFault}
use Rattle.hsp_inputs.specs.declared.stream_fault.StreamFault.TheVariants.{Log, OutOfMemory}
use Rattle.hsp_log.specs.declared.form.CountForm.{CountForm}
use Rattle.hsp_price_runs.specs.LogRows.{row_in, rows_with, with_record, with_row}
use Rattle.hsp_price_runs.specs.Passing.{StopsAt, fault_of_pass}

-- a row is taken where it makes no region too many
pub row_taken : (n : ℕ) (rows : List Row) (row : Row) → length (regions_of (rows ++ row ∷ [])) ≤ MOST_LOG_REGIONS
    → with_row n rows row ≡ Ok (rows ++ row ∷ [])
row_taken n rows row few = rw (le_true (length (regions_of (rows ++ row ∷ []))) MOST_LOG_REGIONS few) refl

-- and otherwise it is refused
pub row_refused : (n : ℕ) (rows : List Row) (row : Row) → HasTooMany (rows ++ row ∷ [])
    → with_row n rows row ≡ Err (Log (fault.TooManyRegions n))
row_refused n rows row many = rw (le_false (length (regions_of (rows ++ row ∷ []))) MOST_LOG_REGIONS many) refl

-- a taker that stops at a row stops at it behind all rows that it may have taken
pub taking_stops : {X : Type 0} (HasTaken : X → List Row → X → Type 0) (n : ℕ) (row : Row) (taker : X) (e : PassFault)
    → (e ≡ pass.OutOfMemory) ⊎ StopsAt HasTaken row taker e
    → (fault_of_pass n e ≡ OutOfMemory)
    ⊎ ((first : X) (rows : List Row) → HasTaken first rows taker → with_row n rows row ≡ Err (fault_of_pass n e))
taking_stops HasTaken n row taker e (inl memory) = rw memory (inl refl)
taking_stops HasTaken n row taker e (inr (many, all)) =
    rw many (inr (λ first rows is. row_refused n rows row (all first rows is)))

module _ (form : CountForm) (n : ℕ) (fields : Fields) where
  -- a record whose fields are those of a row spells it
  pub good_row : (parts : Parts) (row : Row) → Some parts ≡ parts_in form fields → row_of n parts ≡ Ok row
      → row_in form n fields ≡ Ok row
  good_row parts row are is =
      ap (λ (o : Option Parts). or_fault (Log (fault.Fields n)) o >>= λ parts. fault_as Log (row_of n parts)) (sym are)
      ∙ ap (λ (r : Result Row RowFault). fault_as Log r) is

  -- the record's row comes behind the rows before it
  pub read_record : (rows : List Row) (row : Row) → row_in form n fields ≡ Ok row
      → with_record form n rows fields ≡ with_row n rows row
  read_record rows row is = ap (λ (r : Result Row StreamFault). r >>= with_row n rows) is

  -- further records come behind that
  pub record_more : (rows next : List Row) (more : List Fields) → with_record form n rows fields ≡ Ok next
      → rows_with form n rows (fields ∷ more) ≡ rows_with form (n + 1) next more
  record_more rows next more is =
      ap (λ (r : Result (List Row) StreamFault). r >>= λ own. rows_with form (n + 1) own more) is
