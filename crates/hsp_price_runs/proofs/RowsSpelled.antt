-- The rows of a log are those that its records spell.
use Rattle.std.proofs.Common.{◌≡◌, ◌∙◌, ◌+◌, ◌++◌, ℕ, List, [], ◌∷◌, Option, Some, Result, Ok, Err, append_assoc}
use Rattle.std.proofs.Common.{append-nil, ap, subst, sym, arith, inl, inr}
use Rattle.hsp_csv.specs.Records.{Fields}
use Rattle.hsp_text.specs.Answers.{or_fault, fault_as}
use Rattle.hsp_text.proofs.Steps.{first_step}
use Rattle.hsp_instance.specs.Instance.{Row}
use Rattle.hsp_log.specs.LogRows.{Parts, SpellRows, Spells, SpellsLog, parts_in, row_of, header_of}
use Rattle.hsp_price_runs.specs.LogRows.{form_of, log_rows, row_in, rows_with, with_record, with_row}
use Rattle.hsp_log.specs.declared.fault.RowFault.TheVariants as fault
use Rattle.hsp_inputs.specs.declared.stream_fault.StreamFault.{StreamFault}
use Rattle.hsp_inputs.specs.declared.stream_fault.StreamFault.TheVariants.{Log}
use Rattle.hsp_log.specs.declared.form.CountForm.{CountForm}
use Rattle.hsp_log.proofs.LogRows.{row_any, told}
use Rattle.std.proofs.lemmas.Bool.{cases_Bool}
use Rattle.hsp_csv.specs.Header.{same_fields}
use Rattle.hsp_csv.proofs.SameFields.{same_fields_are}
use Rattle.hsp_log.specs.declared.form.CountForm.TheVariants.{Counts, Ones}

-- the header of a form is that form's
pub header_is : (first : Fields) (form : CountForm) → form_of first ≡ Ok form → first ≡ header_of form
header_is first form e = elim (cases_Bool (same_fields first (header_of Ones))) [
  | inl ones ↦
      let is : ◌≡◌ {A = Result CountForm StreamFault} (Ok Ones) (Ok form) = rw ones at e in
      let same : Ones ≡ form = cc (is) in
      same_fields_are first (header_of Ones) ones ∙ ap header_of same
  | inr others ↦ elim (cases_Bool (same_fields first (header_of Counts))) [
    | inl counts ↦
        let is : ◌≡◌ {A = Result CountForm StreamFault} (Ok Counts) (Ok form) = rw (others, counts) at e in
        let same : Counts ≡ form = cc (is) in
        same_fields_are first (header_of Counts) counts ∙ ap header_of same
    | inr none ↦ let is : ◌≡◌ {A = Result CountForm StreamFault} (Err (Log fault.Header)) (Ok form) =
        rw (others, none) at e in cc (is)
  ]
]

-- what there is, where nothing is a fault
some_is : (n : ℕ) (o : Option Parts) (parts : Parts) → or_fault (Log (fault.Fields n)) o ≡ Ok parts → Some parts ≡ o
some_is n o parts e = grind arith

-- a record that is read as a row spells it
row_spelled : (form : CountForm) (n : ℕ) (fields : Fields) (row : Row) → row_in form n fields ≡ Ok row
    → Spells form fields row
row_spelled form n fields row e =
    let parts =
    first_step (or_fault (Log (fault.Fields n)) (parts_in form fields)) (λ parts. fault_as Log (row_of n parts)) row
    e in
    record {
      parts = parts.0;
      are = some_is n (parts_in form fields) parts.0 parts.1;
      row_is = λ m. row_any n m parts.0 row (told Log (row_of n parts.0) row parts.2);
    }

-- a row that is taken comes behind the others
comes_last : (n : ℕ) (rows next : List Row) (row : Row) → with_row n rows row ≡ Ok next → next ≡ rows ++ row ∷ []
comes_last n rows next row e = grind arith

-- the rows that records add are those that they spell
rows_spelled : (form : CountForm) (n : ℕ) (before all : List Row) (records : List Fields)
    → rows_with form n before records ≡ Ok all
    → (rows : List Row) × SpellRows form records rows × (all ≡ before ++ rows)
rows_spelled form n before all [] e =
    let same : before ≡ all = cc (e) in ([], tt, sym same ∙ sym (append-nil before))
rows_spelled form n before all (fields ∷ more) e =
    let next =
    first_step (with_record form n before fields) (λ next. rows_with form (n + 1) next more) all e in
    let read = first_step (row_in form n fields) (with_row n before) next.0 next.1 in
    let last = comes_last n before next.0 read.0 read.2 in
    let rest = rows_spelled form (n + 1) next.0 all more next.2 in (
      read.0 ∷ rest.0,
      (row_spelled form n fields read.0 read.1, rest.1),
      rest.2 ∙ ap (λ l. l ++ rest.0) last ∙ append_assoc before (read.0 ∷ []) rest.0,
    )

-- the rows of a log are those that it spells
pub log_spelled : (records : List Fields) (rows : List Row) → log_rows records ≡ Ok rows → SpellsLog records rows
log_spelled [] rows e = let bad : ◌≡◌ {A = Result (List Row) StreamFault} (Err (Log fault.Header)) (Ok rows) = e in cc
log_spelled (first ∷ body) rows e =
    let form = first_step (form_of first) (λ form. rows_with form 0 [] body) rows e in
    let read = rows_spelled form.0 0 [] rows body form.2 in
    let same : rows ≡ read.0 = read.2 in (
      form.0,
      body,
      ap (λ l. l ∷ body) (header_is first form.0 form.1),
      subst (λ (l : List Row). SpellRows form.0 body l) (sym same) read.1,
    )
