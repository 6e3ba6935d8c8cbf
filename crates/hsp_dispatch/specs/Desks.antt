-- The two desks: a dispatcher, which answers logs of entries, and fronts, which answer logs of events.
use Rattle.std.specs.Prelude.{◌≡◌, ◌<◌, ℕ, List, map}
use Rattle.hsp_csv.specs.Records.{Fields}
use Rattle.hsp_instance.specs.Instance.{Instance}
use Rattle.hsp_check.specs.Plan.{Plan}
use Rattle.hsp_log.specs.Entries.{Entry, Event, entries_at}
use Rattle.hsp_dispatch.specs.Dispatch.{IsSame, all_of, answers, rest, sums_of}
use Rattle.hsp_dispatch.specs.Fronts.{Tables, event_answers, front_sums_of, fronts_of, left_at_front}
use Rattle.hsp_dispatch.specs.Lines.{front_line, line_of}
use Rattle.hsp_log.specs.Log.{AreEntries, AreEvents, front_header, header_of}
use Rattle.hsp_dispatch.specs.Runs.{Desk}
use Rattle.hsp_dispatch.specs.Shares.{Held, left_of}
use Rattle.hsp_dispatch.specs.declared.answer.FrontAnswer.{FrontAnswer}
use Rattle.hsp_dispatch.specs.declared.answer.FrontSums.{FrontSums}
use Rattle.hsp_log.specs.declared.form.Form.{Form}
use Rattle.hsp_log.specs.RowChecks.{RefusesEntry, RefusesEvent}

-- ---- a dispatcher

-- the rows spell entries; these are answered by the plan `x`, of which `left` is left
abbrev pub AnswersEntries : Instance → Plan → Plan → Form → List Fields → List (List ℕ) → FrontSums → Type 0
AnswersEntries it x left form rows lines sums =
    (entries : List Entry) × AreEntries form rows entries × (lines ≡ map (line_of it) (answers it x entries))
    × (sums ≡ all_of (sums_of (answers it x entries))) × IsSame left (rest it x entries)

abbrev pub by_plan : Instance → Plan → Plan → Desk
by_plan it x left = record { header = header_of; Answers = AnswersEntries it x left; Refuses = RefusesEntry }

-- what a dispatcher holds before a run and after it
abbrev pub by_dispatcher : Held → Held → Desk
by_dispatcher old new = by_plan old.instance (left_of old) (left_of new)

-- ---- fronts

-- the answers to events, by what the fronts hold
abbrev pub answers_by : Tables → List Event → List FrontAnswer
answers_by tables events = event_answers tables.instance (fronts_of tables) (left_at_front tables) events

-- what events leave of what a front holds
abbrev pub rest_by : Tables → ℕ → List Event → Plan
rest_by tables front events = rest tables.instance (left_at_front tables front) (entries_at front events)

-- as many fronts of the instance, each of which has left what events leave of what it held
pub record IsLeftBy (old : Tables) (events : List Event) (new : Tables) : Type 0 where
  pub instance : new.instance ≡ old.instance
  pub many : fronts_of new ≡ fronts_of old
  pub each : (front : ℕ) → front < fronts_of old → IsSame (left_at_front new front) (rest_by old front events)

-- the rows spell events; these are answered by what the fronts hold, and leave what they hold then
abbrev pub AnswersEvents : Tables → Tables → Form → List Fields → List (List ℕ) → FrontSums → Type 0
AnswersEvents old new form rows lines sums =
    (events : List Event) × AreEvents rows events × (lines ≡ map (front_line old.instance) (answers_by old events))
    × (sums ≡ front_sums_of (answers_by old events)) × IsLeftBy old events new

abbrev pub by_fronts : Tables → Tables → Desk
by_fronts old new = record { header = λ form. front_header; Answers = AnswersEvents old new; Refuses = RefusesEvent }
