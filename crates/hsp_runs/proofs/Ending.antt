-- Runs that end, or stop, told of another desk with the same answers.
use Rattle.std.proofs.Common.{◌≡◌, ◌⊎◌, ℕ, List, [], ◌∷◌, ◌++◌, Result, Ok, Err, inl, inr, refl}
use Rattle.hsp_csv.specs.Records.{Fields}
use Rattle.hsp_dispatch.specs.Runs.{Answered, Begins, Desk, EndsWhole, Stops, StopsAt, StopsInLine, StopsSomewhere}
use Rattle.hsp_dispatch.specs.Runs.{Streams}
use Rattle.hsp_dispatch.specs.declared.answer.FrontSums.{FrontSums}
use Rattle.hsp_log.specs.declared.fault.LogFault.{LogFault}
use Rattle.hsp_log.specs.declared.fault.LogFault.TheVariants as log_fault
use Rattle.hsp_runs.specs.Dispatch.{EndsLog}
use Rattle.hsp_runs.specs.Logs.{Ends}
use Rattle.hsp_inputs.specs.declared.fault.Fault.{Fault}

module _ (one other : Desk) (run : Streams) (heads : one.header ≡ other.header)
    (goes : (form : _) (rows : List Fields) (lines : List (List ℕ)) (sums : FrontSums)
    → one.Answers form rows lines sums → other.Answers form rows lines sums) where
  abbrev Stopped : Type 0
  Stopped = StopsSomewhere other run ⊎ StopsInLine other run

  -- a log begins in the same way for both
  begun : (form : _) (rows more : List Fields) → Begins (one.header form) run.log rows more
      → Begins (other.header form) run.log rows more
  begun form rows more begins = rw heads at begins

  -- so it does where no row was read yet
  begun_or : (form : _) (rows more : List Fields) → (rows ≡ []) ⊎ Begins (one.header form) run.log rows more
      → (rows ≡ []) ⊎ Begins (other.header form) run.log rows more
  begun_or form rows more (inl none) = inl none
  begun_or form rows more (inr begins) = inr (begun form rows more begins)

  -- what one has answered, the other has
  answered : (form : _) (rows : List Fields) (sums : FrontSums) → Answered one run form rows sums
      → Answered other run form rows sums
  answered form rows sums (within, lines, are, written) = (within, lines, goes form rows lines sums are, written)

  -- what ends whole by one does by the other
  whole : (sums : FrontSums) → EndsWhole one run sums → EndsWhole other run sums
  whole sums (form, rows, begins, of) = (form, rows, begun form rows [] begins, answered form rows sums of)

  -- what stops somewhere by one does by the other
  somewhere : StopsSomewhere one run → StopsSomewhere other run
  somewhere (form, rows, more, sums, begins, of) =
      (form, rows, more, sums, begun_or form rows more begins, answered form rows sums of)

  -- what stops in a line by one does by the other
  in_line : StopsInLine one run → StopsInLine other run
  in_line (form, rows, more, early, last, sums, middle, begins, within, are, written, cut) = (
    form,
    rows,
    more,
    early,
    last,
    sums,
    middle,
    begun form rows more begins,
    within,
    goes form rows (early ++ last ∷ []) sums are,
    written,
    cut,
  )

  -- what stops at a row by one stops by the other
  at_row : (number : ℕ) (IsSo : _ → Fields → Type 0) → StopsAt one run number IsSo → Stopped
  at_row number IsSo (form, rows, bad, more, sums, begins, many, so, of) =
      inl (form, rows, bad ∷ more, sums, inr (begun form rows (bad ∷ more) begins), answered form rows sums of)

  -- what stops by one stops by the other
  stopped : (fault : LogFault) → Stops one run fault → Stopped
  stopped log_fault.ReadFailed s = inl (somewhere s)
  stopped log_fault.WriteFailed (inl s) = inr (in_line s)
  stopped log_fault.WriteFailed (inr (sums, (form, rows, begins, of))) =
      inl (form, rows, [], sums, inr (begun form rows [] begins), answered form rows sums of)
  stopped log_fault.Header (unheaded, (form, sums, of)) = inl (form, [], [], sums, inl refl, answered form [] sums of)
  stopped (log_fault.Fields row) s = at_row row _ s
  stopped (log_fault.BadHandle row) s = at_row row _ s
  stopped log_fault.LogTooLong s = at_row _ _ s
  stopped log_fault.OutOfMemory s = inl (somewhere s)
  stopped (log_fault.BadBody row) s = at_row row _ s
  stopped (log_fault.BadFront row) s = at_row row _ s

  -- what ends by one ends by the other
  pub ends : {S : Type 0} (all : S → FrontSums) (answer : Result S Fault) → EndsLog all run answer one
      → Ends all run answer other
  ends all (Ok sums) e = whole (all sums) e
  ends all (Err e) (fault, told, stops) = (fault, told, stopped fault stops)
