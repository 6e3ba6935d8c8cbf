-- How a run over a log ends: what it has written, and what it leaves of the plan.
use Rattle.std.specs.Prelude.{◌≡◌, ◌≢◌, ◌≤◌, ◌<◌, ◌⊎◌, ⊤, ℕ, List, [], ◌∷◌, ◌++◌, length, Option, None, Some}
use Rattle.std.specs.Io.KnownBytes.{Appends}
use Rattle.hsp_text.specs.Writing.{IsCut}
use Rattle.hsp_csv.specs.Records.{Fields}
use Rattle.hsp_dispatch.specs.Lines.{text_of}
use Rattle.hsp_dispatch.specs.declared.answer.FrontSums.{FrontSums}
use Rattle.hsp_log.specs.declared.fault.LogFault.{LogFault}
use Rattle.hsp_log.specs.declared.fault.LogFault.TheVariants as fault
use Rattle.hsp_log.specs.declared.form.Form.{Form}
use Rattle.hsp_text.specs.declared.limits.TheConstants.{MOST_LOG_ROWS}

-- Who answers the rows of a log: the headers of the logs that it takes, how it answers rows, and why it refuses one.
pub record Desk : Type 1 where
  pub header : Form → Fields
  -- the rows are answered by these lines, the sums count the answers, and what stands then is left
  pub Answers : Form → List Fields → List (List ℕ) → FrontSums → Type 0
  pub Refuses : Form → Fields → LogFault → Type 0

-- the log's records, where they are known, and what the writer holds before the run and after it, where that is known
pub record Streams : Type 0 where
  pub log : Option (List Fields)
  pub before : Option (List ℕ)
  pub after : Option (List ℕ)

abbrev pub streams : Option (List Fields) → Option (List ℕ) → Option (List ℕ) → Streams
streams log before after = record { log = log; before = before; after = after }

abbrev pub desk_of : (Form → Fields) → (Form → List Fields → List (List ℕ) → FrontSums → Type 0)
    → (Form → Fields → LogFault → Type 0) → Desk
desk_of header Answers Refuses = record { header = header; Answers = Answers; Refuses = Refuses }

-- ---- the log

-- the log's records, where they are known: the header, the rows, and what follows them
abbrev pub Begins : Fields → Option (List Fields) → List Fields → List Fields → Type 0
Begins header None rows more = ⊤
Begins header (Some records) rows more = records ≡ header ∷ (rows ++ more)

-- there is no first record, or it is no header
abbrev pub IsUnheaded : (Form → Fields) → Option (List Fields) → Type 0
IsUnheaded header None = ⊤
IsUnheaded header (Some []) = ⊤
IsUnheaded header (Some (first ∷ more)) = (form : Form) → first ≢ header form

-- ---- what was answered

-- no more rows than a log may have
abbrev pub AreWithinLimit : List Fields → Type 0
AreWithinLimit rows = length rows ≤ MOST_LOG_ROWS

-- these rows of a log of the form were answered, no more than it may have, and their lines were written
abbrev pub Answered : Desk → Streams → Form → List Fields → FrontSums → Type 0
Answered desk run form rows sums =
    AreWithinLimit rows × (lines : List (List ℕ)) × desk.Answers form rows lines sums
    × Appends run.before run.after (text_of lines)

-- all rows of the log were answered
abbrev pub EndsWhole : Desk → Streams → FrontSums → Type 0
EndsWhole desk run sums =
    (form : Form) × (rows : List Fields) × Begins (desk.header form) run.log rows []
    × Answered desk run form rows sums

-- ---- how a run stops

-- no row was answered
abbrev pub StopsAtHeader : Desk → Streams → Type 0
StopsAtHeader desk run = (form : Form) × (sums : FrontSums) × Answered desk run form [] sums

-- some first rows were answered; where there are none, the header may not be read
abbrev pub StopsSomewhere : Desk → Streams → Type 0
StopsSomewhere desk run =
    (form : Form) × (rows : List Fields) × (more : List Fields) × (sums : FrontSums)
    × ((rows ≡ []) ⊎ Begins (desk.header form) run.log rows more) × Answered desk run form rows sums

-- all rows before one of this number were answered, which is so
abbrev pub StopsAt : Desk → Streams → ℕ → (Form → Fields → Type 0) → Type 0
StopsAt desk run number IsSo =
    (form : Form) × (rows : List Fields) × (bad : Fields) × (more : List Fields) × (sums : FrontSums)
    × Begins (desk.header form) run.log rows (bad ∷ more) × (length rows ≡ number) × IsSo form bad
    × Answered desk run form rows sums

-- the desk refuses by this fault the row of this number, which a log may have; all rows before it were answered
abbrev pub StopsAtRow : Desk → Streams → ℕ → LogFault → Type 0
StopsAtRow desk run number e =
    StopsAt desk run number (λ form bad. (number < MOST_LOG_ROWS) × desk.Refuses form bad e)

-- some first rows were answered, and of the last line less than the whole was written
abbrev pub StopsInLine : Desk → Streams → Type 0
StopsInLine desk run =
    (form : Form) × (rows : List Fields) × (more : List Fields) × (early : List (List ℕ)) × (last : List ℕ)
    × (sums : FrontSums) × (middle : Option (List ℕ)) × Begins (desk.header form) run.log rows more
    × AreWithinLimit rows × desk.Answers form rows (early ++ last ∷ []) sums
    × Appends run.before middle (text_of early) × IsCut middle run.after last

-- all rows were answered, and all lines were written
abbrev pub StopsAtEnd : Desk → Streams → Type 0
StopsAtEnd desk run = (sums : FrontSums) × EndsWhole desk run sums

-- how each fault leaves the plan and the writer
abbrev pub Stops : Desk → Streams → LogFault → Type 0
Stops desk run fault.ReadFailed = StopsSomewhere desk run
Stops desk run fault.WriteFailed = StopsInLine desk run ⊎ StopsAtEnd desk run
Stops desk run fault.Header = IsUnheaded desk.header run.log × StopsAtHeader desk run
Stops desk run (fault.Fields row) = StopsAtRow desk run row (fault.Fields row)
Stops desk run (fault.BadHandle row) = StopsAtRow desk run row (fault.BadHandle row)
Stops desk run fault.LogTooLong = StopsAt desk run MOST_LOG_ROWS (λ form bad. ⊤)
Stops desk run fault.OutOfMemory = StopsSomewhere desk run
Stops desk run (fault.BadBody row) = StopsAtRow desk run row (fault.BadBody row)
Stops desk run (fault.BadFront row) = StopsAtRow desk run row (fault.BadFront row)
