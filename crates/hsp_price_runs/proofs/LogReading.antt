-- The records of a log, as their rows are taken.
use Rattle.std.proofs.Common.{◌≡◌, ◌∙◌, ◌+◌, ℕ, true, List, [], ◌∷◌, ◌++◌, Option, Result, Ok, Err, IfSome}
use Rattle.std.proofs.Common.{append_assoc, refl, ap, subst, sym}
use Rattle.csv.specs.declared.reader.Reader.{Reader}
use Rattle.hsp_csv.specs.Records.{Fields, IsKnown, TakesRecord, records_left, records_of}
use Rattle.hsp_text.specs.Answers.{◌>>=◌}
use Rattle.hsp_instance.specs.Instance.{Row}
use Rattle.hsp_log.specs.LogRows.{OfLeft, OfLog}
use Rattle.hsp_price_runs.specs.LogRows.{form_of, log_rows, rows_with, with_record}
use Rattle.hsp_inputs.specs.declared.stream_fault.StreamFault.{StreamFault}
use Rattle.hsp_log.specs.declared.form.CountForm.{CountForm}
use Rattle.hsp_log.proofs.LogReading.{at_start, left_more}
use Rattle.hsp_price_runs.specs.Passing.{IsOverSome, TakesRecord as TakesRow}
use Rattle.hsp_price_runs.proofs.RowsTaken.{read_record, record_more, row_taken}

-- ---- the rows

module _ {X : Type 0} (HasTaken : X → List Row → X → Type 0) (form : CountForm) (fresh : X) where
  -- some records were read, and their rows were taken
  pub record TakenSoFar {R : Type 0} (remaining : R → Option (List ℕ)) (first now : Reader R) (n : ℕ) (taker : X) :
      Type 0 where
    pub done : List Fields
    pub left : IsKnown remaining first → (records_left remaining first ≡ done ++ records_left remaining now)
        × IsKnown remaining now
    pub rows : List Row
    pub are : (more : List Fields) → rows_with form n rows more ≡ rows_with form 0 [] (done ++ more)
    pub taken : HasTaken fresh rows taker

  -- nothing was read yet
  pub none_taken : {R : Type 0} (remaining : R → Option (List ℕ)) (first : Reader R) → HasTaken fresh [] fresh
      → TakenSoFar remaining first first 0 fresh
  none_taken remaining first is = record {
    done = [];
    left = λ known. (refl, known);
    rows = [];
    are = λ more. refl;
    taken = is;
  }

  module _ {R : Type 0} (remaining : R → Option (List ℕ)) (first now next : Reader R) (n : ℕ) (taker : X)
      (fields : Fields) (so_far : TakenSoFar remaining first now n taker) where
    -- it has taken the rows so far
    pub some_taken : IsOverSome HasTaken taker
    some_taken = (fresh, so_far.rows, so_far.taken)

    -- a record more is read, and its row taken
    pub one_taken : (after : X) → TakesRecord remaining now next true fields
        → TakesRow HasTaken form n fields taker after → TakenSoFar remaining first next (n + 1) after
    one_taken after takes read =
        let all = so_far.rows ++ read.row ∷ [] in
        let own = read.takes fresh so_far.rows so_far.taken in
        let taken : with_record form n so_far.rows fields ≡ Ok (so_far.rows ++ read.row ∷ []) =
        read_record form n fields so_far.rows read.row read.spelled
        ∙ row_taken n so_far.rows read.row own.1 in
        record {
          done = so_far.done ++ fields ∷ [];
          left = λ known.
              let after = left_more remaining first now next so_far.done fields so_far.left takes known in
              (after.0 ∙ sym (append_assoc so_far.done (fields ∷ []) (records_left remaining next)), after.1);
          rows = so_far.rows ++ read.row ∷ [];
          are = λ more.
              sym (record_more form n fields so_far.rows all more taken) ∙ so_far.are (fields ∷ more)
              ∙ ap (λ l. rows_with form 0 [] l) (sym (append_assoc so_far.done (fields ∷ []) more));
          taken = own.0;
        }

    -- a record more is read, which has a fault
    pub one_bad : (e : StreamFault) → TakesRecord remaining now next true fields
        → with_record form n so_far.rows fields ≡ Err e
        → OfLeft remaining first (λ records. rows_with form 0 [] records ≡ Err e)
    one_bad e takes is = (
      so_far.done ++ fields ∷ records_left remaining next,
      λ known. sym (left_more remaining first now next so_far.done fields so_far.left takes known).0,
      sym (so_far.are (fields ∷ records_left remaining next))
          ∙ ap
          (λ (r : Result (List Row) StreamFault). r >>= λ after.
          rows_with form (n + 1) after (records_left remaining next)) is,
    )

-- ---- the log

module _ {R : Type 0} (remaining : R → Option (List ℕ)) (log : Option (List ℕ)) (reader : Reader R)
    (known : IfSome log (λ octets. IsKnown remaining reader))
    (are : IfSome log (λ octets. records_left remaining reader ≡ records_of octets)) where
  -- the first record is no header
  pub bad_header : (next : Reader R) (fields : Fields) (e : StreamFault)
      → TakesRecord remaining reader next true fields → form_of fields ≡ Err e
      → OfLog log (λ records. log_rows records ≡ Err e)
  bad_header next fields e takes is = (
    fields ∷ records_left remaining next,
    at_start remaining log reader (fields ∷ records_left remaining next) known are (λ k. sym (takes k).0),
    ap
        (λ (r : Result CountForm StreamFault). r >>= λ form. rows_with form 0 [] (records_left remaining next)) is,
  )

  -- what holds of the rows behind a header holds of the log's
  pub behind_header : (P : Result (List Row) StreamFault → Type 0) (next : Reader R) (fields : Fields)
      (form : CountForm) → TakesRecord remaining reader next true fields → form_of fields ≡ Ok form
      → OfLeft remaining next (λ records. P (rows_with form 0 [] records)) → OfLog log (λ records. P (log_rows records))
  behind_header P next fields form takes is (records, left, holds) = (
    fields ∷ records,
    at_start remaining log reader (fields ∷ records) known are (λ k. let after = takes k in
        ap (λ l. fields ∷ l) (left after.1) ∙ sym after.0),
    subst P (sym (ap (λ (r : Result CountForm StreamFault). r >>= λ own. rows_with own 0 [] records) is)) holds,
  )
