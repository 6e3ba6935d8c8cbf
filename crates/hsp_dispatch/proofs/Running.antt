-- A run over a log: what was answered so far, one row more, and how it stops.
use Rattle.std.proofs.Common.{◌≡◌, ◌≤◌, ◌<◌, ◌++◌, ◌∙◌, ◌+◌, ℕ, List, [], ◌∷◌, length, length-append, Option, Some}
use Rattle.std.proofs.Common.{None, inl, inr, refl, sym, ap, arith, lit≤}
use Rattle.std.specs.Io.KnownBytes.{Appends, Keeps}
use Rattle.std.proofs.KnownBytes.{Appends-trans}
use Rattle.std.proofs.lemmas.List.{append-nil, append_assoc}
use Rattle.csv.specs.declared.reader.Reader.{Reader}
use Rattle.hsp_text.specs.Writing.{IsCut}
use Rattle.hsp_text.specs.declared.limits.TheConstants.{MOST_LOG_ROWS}
use Rattle.hsp_csv.specs.Records.{Fields}
use Rattle.hsp_csv.specs.declared.fault.RecordsFault.{RecordsFault}
use Rattle.hsp_csv.specs.declared.fault.RecordsFault.TheVariants as records_fault
use Rattle.hsp_instance.specs.Instance.{Instance}
use Rattle.hsp_dispatch.specs.Lines.{count_all, counted, text_of}
use Rattle.hsp_log.specs.Log.{fault_of}
use Rattle.hsp_dispatch.specs.Runs.{Answered, AreWithinLimit, Begins, Desk, EndsWhole, Stops, StopsAtRow}
use Rattle.hsp_dispatch.specs.Runs.{StopsSomewhere, Streams, desk_of}
use Rattle.hsp_dispatch.specs.Steps.{FailsHeader, GoesOn, IsRead, IsRefused, RowAnswers, log_left, none_counted}
use Rattle.hsp_dispatch.specs.declared.answer.FrontSums.{FrontSums}
use Rattle.hsp_dispatch.specs.declared.answer.Given.{Given}
use Rattle.hsp_dispatch.specs.declared.answer.Given.TheVariants as given
use Rattle.hsp_log.specs.declared.fault.LogFault.{LogFault}
use Rattle.hsp_log.specs.declared.fault.LogFault.TheVariants as fault
use Rattle.hsp_log.specs.declared.form.Form.{Form}
use Rattle.hsp_log.specs.declared.form.Form.TheVariants.{Handles}
use Rattle.hsp_dispatch.proofs.InTurn.{begins, begins_before, unheaded}

-- ---- what was answered so far

-- so many rows were read and answered; `now` are the records that are left
pub record SoFar (desk : Desk) (run : Streams) (form : Form) (now : Option (List Fields)) (number : ℕ)
    (sums : FrontSums) : Type 0 where
  pub rows : List Fields
  pub lines : List (List ℕ)
  pub many : length rows ≡ number
  pub within : number ≤ MOST_LOG_ROWS
  pub read : IsRead (desk.header form) run.log rows now
  pub answers : desk.Answers form rows lines sums
  pub written : Appends run.before run.after (text_of lines)
  pub counted_all : count_all sums ≡ number

-- all rows so far were answered
pub answered : (desk : Desk) (run : Streams) (form : Form) (now : Option (List Fields)) (number : ℕ) (sums : FrontSums)
    (so_far : SoFar desk run form now number sums) → Answered desk run form so_far.rows sums
answered desk run form now number sums so_far =
    (rw so_far.many so_far.within, so_far.lines, so_far.answers, so_far.written)

-- ---- one row more

-- one line more is put behind the text
text_more : (lines : List (List ℕ)) (line : List ℕ) → text_of (lines ++ line ∷ []) ≡ text_of lines ++ line
text_more [] line = append-nil line
text_more (first ∷ lines) line =
    ap (λ more. first ++ more) (text_more lines line) ∙ sym (append_assoc first (text_of lines) line)

-- an answer more is one more in all
count_more : (sums : FrontSums) (how : Given) → count_all (counted sums how) ≡ count_all sums + 1
count_more sums (given.Server number) = omega arith
count_more sums given.Spent = omega arith
count_more sums given.Unknown = omega arith
count_more sums given.NoFront = omega arith

-- the row's answer is counted, and its line is or is not written whole
module _ {S : Type 0} (instance : S → Instance) (Answers : S → S → RowAnswers) (header : Form → Fields)
    (Refuses : Form → Fields → LogFault → Type 0) (start old new : S)
    (log : Option (List Fields)) (before middle after : Option (List ℕ)) (form : Form)
    (now later : Option (List Fields)) (number : ℕ) (sums : FrontSums)
    (row : Fields) (line text : List ℕ) (how : Given)
    (so_far : SoFar (desk_of header (Answers start old) Refuses) (record { log = log; before = before; after = middle })
    form now number sums)
    (read : IsRead (header form) log (so_far.rows ++ row ∷ []) later) (same : instance old ≡ instance start)
    (on : GoesOn instance Answers old new form row line how)
    (is_line : text ≡ line) (below : number < MOST_LOG_ROWS) where
  -- one row more was read
  many_more : length (so_far.rows ++ row ∷ []) ≡ number + 1
  many_more = length-append so_far.rows (row ∷ []) ∙ ap (λ n. n + 1) so_far.many

  -- one row more was answered, and its line written
  pub row_more : Appends middle after text
      → SoFar (desk_of header (Answers start new) Refuses) (record { log = log; before = before; after = after }) form
      later (number + 1) (counted sums how)
  row_more line_written = record {
    rows = so_far.rows ++ row ∷ [];
    lines = so_far.lines ++ line ∷ [];
    many = many_more;
    within = omega (arith, below);
    read = read;
    answers = on start so_far.rows so_far.lines sums same so_far.answers;
    written =
        rw (text_more so_far.lines line)
        (Appends-trans before middle after (text_of so_far.lines) line so_far.written (rw is_line at line_written));
    counted_all = count_more sums how ∙ ap (λ n. n + 1) so_far.counted_all;
  }

  -- a line that is cut off stops the run
  pub line_stops : IsCut middle after text
      → Stops (desk_of header (Answers start new) Refuses) (record { log = log; before = before; after = after })
      fault.WriteFailed
  line_stops cut =
      let begun = begins (header form) log later (so_far.rows ++ row ∷ []) read in
      inl (
        form,
        so_far.rows ++ row ∷ [],
        begun.0,
        so_far.lines,
        line,
        counted sums how,
        middle,
        begun.1,
        rw many_more (omega (arith, below)),
        on start so_far.rows so_far.lines sums same so_far.answers,
        so_far.written,
        rw is_line at cut,
      )

-- ---- how a run stops

-- at the header
pub header_stops : {R : Type 0} (remaining : R → Option (List ℕ)) (old : Reader R) (desk : Desk) (run : Streams)
    (e : LogFault)
    → run.log ≡ log_left remaining old → desk.Answers Handles [] [] none_counted → Appends run.before run.after []
    → FailsHeader remaining old desk.header e
    → Stops desk run e
header_stops remaining old desk run fault.Header log none written fails =
    (rw log (unheaded remaining old desk.header fails), (Handles, none_counted, (lit≤ tt, [], none, written)))
header_stops remaining old desk run fault.ReadFailed log none written fails =
    (Handles, [], [], none_counted, inl refl, (lit≤ tt, [], none, written))
header_stops remaining old desk run fault.OutOfMemory log none written fails =
    (Handles, [], [], none_counted, inl refl, (lit≤ tt, [], none, written))
header_stops remaining old desk run fault.WriteFailed log none written fails = absurd fails
header_stops remaining old desk run fault.LogTooLong log none written fails = absurd fails
header_stops remaining old desk run (fault.Fields row) log none written fails = absurd fails
header_stops remaining old desk run (fault.BadHandle row) log none written fails = absurd fails
header_stops remaining old desk run (fault.BadBody row) log none written fails = absurd fails
header_stops remaining old desk run (fault.BadFront row) log none written fails = absurd fails

-- before it
pub memory_stops : (desk : Desk) (run : Streams) → desk.Answers Handles [] [] none_counted
    → Appends run.before run.after [] → Stops desk run fault.OutOfMemory
memory_stops desk run none written = (Handles, [], [], none_counted, inl refl, (lit≤ tt, [], none, written))

module _ (desk : Desk) (run : Streams) (form : Form) (now : Option (List Fields)) (number : ℕ) (sums : FrontSums)
    (so_far : SoFar desk run form now number sums) where
  -- the run stopped at some row
  somewhere : StopsSomewhere desk run
  somewhere =
      let begun = begins (desk.header form) run.log now so_far.rows so_far.read in
      (form, so_far.rows, begun.0, sums, inr begun.1, answered desk run form now number sums so_far)

  -- at a read that fails
  pub read_stops : (e : RecordsFault) → Stops desk run (fault_of e)
  read_stops records_fault.ReadFailed = somewhere
  read_stops records_fault.OutOfMemory = somewhere

  -- at a row that was read
  module _ (row : Fields) (later : Option (List Fields))
      (read : IsRead (desk.header form) run.log (so_far.rows ++ row ∷ []) later) where
    abbrev more : List Fields
    more = (begins (desk.header form) run.log later (so_far.rows ++ row ∷ []) read).0

    -- the row comes behind those that were answered
    before_row : Begins (desk.header form) run.log so_far.rows (row ∷ more)
    before_row =
        begins_before (desk.header form) run.log so_far.rows row more
        (begins (desk.header form) run.log later (so_far.rows ++ row ∷ []) read).1

    -- a row past the limit stops the run
    pub too_long : number ≡ MOST_LOG_ROWS → Stops desk run fault.LogTooLong
    too_long last = (
      form,
      so_far.rows,
      row,
      more,
      sums,
      before_row,
      so_far.many ∙ last,
      tt,
      answered desk run form now number sums so_far,
    )

    -- a refused row stops the run there
    at_row : number < MOST_LOG_ROWS → (n : ℕ) → n ≡ number → (e : LogFault) → desk.Refuses form row e
        → StopsAtRow desk run n e
    at_row below n is e refused = (
      form,
      so_far.rows,
      row,
      more,
      sums,
      before_row,
      so_far.many ∙ sym is,
      (rw is below, refused),
      answered desk run form now number sums so_far,
    )

    -- so the run stops with the row's fault
    pub refused_stops : number < MOST_LOG_ROWS → (e : LogFault) → IsRefused desk.Refuses number form row e
        → Stops desk run e
    refused_stops below (fault.Fields n) refused = at_row below n refused.0 (fault.Fields n) refused.1
    refused_stops below (fault.BadHandle n) refused = at_row below n refused.0 (fault.BadHandle n) refused.1
    refused_stops below (fault.BadBody n) refused = at_row below n refused.0 (fault.BadBody n) refused.1
    refused_stops below (fault.BadFront n) refused = at_row below n refused.0 (fault.BadFront n) refused.1
    refused_stops below fault.OutOfMemory refused =
        (form, so_far.rows, row ∷ more, sums, inr before_row, answered desk run form now number sums so_far)
    refused_stops below fault.ReadFailed refused = absurd refused
    refused_stops below fault.WriteFailed refused = absurd refused
    refused_stops below fault.Header refused = absurd refused
    refused_stops below fault.LogTooLong refused = absurd refused

-- at the end of the log, where nothing more is written
pub ends : (desk : Desk) (log : Option (List Fields)) (before middle after : Option (List ℕ)) (form : Form)
    (now : Option (List Fields)) (number : ℕ)
    (sums : FrontSums)
    (so_far : SoFar desk (record { log = log; before = before; after = middle }) form now number sums)
    → Keeps middle after
    → Begins (desk.header form) log so_far.rows []
    → EndsWhole desk (record { log = log; before = before; after = after }) sums
ends desk log before middle after form now number sums so_far keeps whole =
    let written : Appends before after (text_of so_far.lines) =
    rw (append-nil (text_of so_far.lines)) at
    (Appends-trans before middle after (text_of so_far.lines) [] so_far.written
    (keeps_appends middle after keeps)) in
    (form, so_far.rows, whole, (rw so_far.many so_far.within, so_far.lines, so_far.answers, written))
  where
    keeps_appends : (a b : Option (List ℕ)) → Keeps a b → Appends a b []
    keeps_appends None b keeps = tt
    keeps_appends (Some x) None keeps = absurd keeps
    keeps_appends (Some x) (Some y) keeps = keeps ∙ sym (append-nil x)
