-- The steps of a run: reading the header and a row, and answering a row.
use Rattle.std.specs.Prelude.{◌≡◌, ⊤, ℕ, List, [], ◌∷◌, ◌++◌, Option, None, Some, option_map, Ok}
use Rattle.csv.specs.Reading.{reader_state, source_of}
use Rattle.csv.specs.declared.parser.State.{State}
use Rattle.csv.specs.declared.reader.Reader.{Reader}
use Rattle.hsp_csv.specs.Records.{Fields, IsKnown, records_from_state, records_left}
use Rattle.hsp_instance.specs.Instance.{Instance}
use Rattle.hsp_names.specs.Handle.{handle_in}
use Rattle.hsp_log.specs.Entries.{Entry}
use Rattle.hsp_dispatch.specs.Fronts.{IsTakenAt, Tables, answer_among}
use Rattle.hsp_dispatch.specs.Lines.{answer_of, counted}
use Rattle.hsp_dispatch.specs.Runs.{Begins, IsUnheaded}
use Rattle.hsp_dispatch.specs.Shares.{Held, IsLeftBy, answer_by}
use Rattle.hsp_dispatch.specs.declared.answer.FrontAnswer.TheVariants.{Answered}
use Rattle.hsp_dispatch.specs.declared.answer.FrontSums.{FrontSums}
use Rattle.hsp_dispatch.specs.declared.answer.Given.{Given}
use Rattle.hsp_log.specs.declared.fault.LogFault.{LogFault}
use Rattle.hsp_log.specs.declared.fault.LogFault.TheVariants as fault
use Rattle.hsp_log.specs.declared.form.Form.{Form}
use Rattle.hsp_dispatch.specs.declared.answering.LentEntry.{LentEntry}

-- ---- entries

-- an entry whose parts are lent
abbrev pub entry_of : LentEntry → Entry
entry_of lent = record { region = lent.region.now; handle = lent.handle.now }

-- an entry takes from what a dispatcher holds what it is given
pub record Takes (old : Held) (entry : Entry) (new : Held) (given : Given) : Type 0 where
  pub handle : handle_in entry.handle ≡ Ok entry.handle
  pub answer : answer_of old.instance given ≡ Answered (answer_by old entry)
  pub left : IsLeftBy old entry new

-- the same of an entry at a front
pub record TakesAt (front : ℕ) (old : Tables) (entry : Entry) (new : Tables) (given : Given) : Type 0 where
  pub handle : handle_in entry.handle ≡ Ok entry.handle
  pub answer : answer_of old.instance given ≡ answer_among old front entry
  pub left : IsTakenAt front entry old new

-- ---- rows

-- what rows are answered: their lines, and the sums
abbrev pub RowAnswers : Type 1
RowAnswers = Form → List Fields → List (List ℕ) → FrontSums → Type 0

-- the first row is yet to come
abbrev pub none_counted : FrontSums
none_counted = record { assigned = 0; spent = 0; unknown = 0; no_front = 0 }

abbrev pub BeginsWithNone : RowAnswers → Type 0
BeginsWithNone Answers = (form : Form) → Answers form [] [] none_counted

-- One row more is answered, by this line: whatever was answered before, since any start with the same instance.
abbrev pub GoesOn : {S : Type 0} → (S → Instance) → (S → S → RowAnswers) → S → S → Form → Fields → List ℕ → Given
    → Type 0
GoesOn {S} instance Answers old new form row line given =
    (start : S) (rows : List Fields) (lines : List (List ℕ)) (sums : FrontSums) → instance old ≡ instance start
    → Answers start old form rows lines sums
    → Answers start new form (rows ++ row ∷ []) (lines ++ line ∷ []) (counted sums given)

-- a row of this number is refused by a fault that names it, or memory runs out
abbrev pub IsRefused : (Form → Fields → LogFault → Type 0) → ℕ → Form → Fields → LogFault → Type 0
IsRefused Refuses number form bad (fault.Fields row) = (row ≡ number) × Refuses form bad (fault.Fields row)
IsRefused Refuses number form bad (fault.BadFront row) = (row ≡ number) × Refuses form bad (fault.BadFront row)
IsRefused Refuses number form bad (fault.BadBody row) = (row ≡ number) × Refuses form bad (fault.BadBody row)
IsRefused Refuses number form bad (fault.BadHandle row) = (row ≡ number) × Refuses form bad (fault.BadHandle row)
IsRefused Refuses number form bad fault.OutOfMemory = ⊤
IsRefused Refuses number form bad other = ⊥

-- ---- records

-- the records that a reader has left, where its octets are known
abbrev pub records_in : State → Option (List ℕ) → Option (List Fields)
records_in state octets = option_map (λ left. records_from_state state (Some left)) octets

abbrev pub log_left : {R : Type 0} → (R → Option (List ℕ)) → Reader R → Option (List Fields)
log_left remaining reader = records_in (reader_state reader) (source_of remaining reader)

-- the header was read, or the log has none, or a read failed
abbrev pub TakesHeader : {R : Type 0} → (R → Option (List ℕ)) → Reader R → Reader R → Fields → Type 0
TakesHeader remaining old new header =
    IsKnown remaining old → (records_left remaining old ≡ header ∷ records_left remaining new) × IsKnown remaining new

abbrev pub FailsHeader : {R : Type 0} → (R → Option (List ℕ)) → Reader R → (Form → Fields) → LogFault → Type 0
FailsHeader remaining old header fault.Header =
    IsKnown remaining old → IsUnheaded header (Some (records_left remaining old))
FailsHeader remaining old header fault.ReadFailed = ⊤
FailsHeader remaining old header fault.OutOfMemory = ⊤
FailsHeader remaining old header other = ⊥

-- a log whose header and rows were read, and whose records `now` are left
abbrev pub IsRead : Fields → Option (List Fields) → List Fields → Option (List Fields) → Type 0
IsRead header None rows now = ⊤
IsRead header (Some records) rows None = ⊥
IsRead header (Some records) rows (Some now) = Begins header (Some records) rows now
