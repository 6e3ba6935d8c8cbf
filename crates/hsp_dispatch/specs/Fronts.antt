-- Fronts: dispatchers that share one plan, each with a fixed share of it.
use Rattle.std.specs.Prelude.{◌≡◌, ◌≢◌, ◌<◌, ◌+◌, ◌-◌, ◌==◌, nat_lt, Bool, true, false, ℕ, List, [], ◌∷◌, count_by, map}
use Rattle.std.specs.Prelude.{slice_index_or, Some, if◌then◌else◌}
use Rattle.hsp_instance.specs.Instance.{Instance, IsInstance}
use Rattle.hsp_check.specs.Plan.{Plan}
use Rattle.hsp_log.specs.Entries.{Entry, each_after, Event, entries_at}
use Rattle.hsp_dispatch.specs.Dispatch.{IsSame, answer_to, is_assigned, is_in, is_spent, is_unknown, rest, row_of}
use Rattle.hsp_dispatch.specs.Shares.{Held, IsHeld, left_of}
use Rattle.hsp_dispatch.specs.declared.answer.Answer.{Answer}
use Rattle.hsp_dispatch.specs.declared.answer.FrontAnswer.{FrontAnswer}
use Rattle.hsp_dispatch.specs.declared.answer.FrontAnswer.TheVariants.{Answered, NoFront}
use Rattle.hsp_dispatch.specs.declared.answer.FrontSums.{FrontSums}
use Rattle.hsp_dispatch.specs.declared.share.Cell.{Cell}
use Rattle.hsp_log.specs.FrontShares.{share}

-- ---- shares

-- the table of a front's shares
abbrev pub share_of : ℕ → ℕ → Plan → Plan
share_of fronts front x row site = share fronts front (x row site)

-- ---- answers

-- An event is answered by the table of its front and the earlier entries there.
abbrev pub event_answer : Instance → ℕ → (ℕ → Plan) → List Event → Event → FrontAnswer
event_answer it fronts tables earlier event =
    if nat_lt event.front fronts
    then Answered (answer_to it (tables event.front) (entries_at event.front earlier) event.entry) else NoFront

-- the answers to events, after earlier ones
unfoldable pub event_answers_after : Instance → ℕ → (ℕ → Plan) → List Event → List Event → List FrontAnswer
event_answers_after it fronts tables earlier events = each_after (event_answer it fronts tables) earlier events

abbrev pub event_answers : Instance → ℕ → (ℕ → Plan) → List Event → List FrontAnswer
event_answers it fronts tables events = event_answers_after it fronts tables [] events

-- the same by the shares in a plan
abbrev pub shares_of : ℕ → Plan → ℕ → Plan
shares_of fronts x front = share_of fronts front x

abbrev pub front_answer : Instance → ℕ → Plan → List Event → Event → FrontAnswer
front_answer it fronts x earlier event = event_answer it fronts (shares_of fronts x) earlier event

abbrev pub front_answers : Instance → ℕ → Plan → List Event → List FrontAnswer
front_answers it fronts x events = event_answers it fronts (shares_of fronts x) events

-- the answers at a front, of the answers to events
abbrev pub answers_at : ℕ → List Event → List FrontAnswer → List FrontAnswer
answers_at front [] given = []
answers_at front (event ∷ events) [] = []
answers_at front (event ∷ events) (answer ∷ given) =
    if event.front == front then answer ∷ answers_at front events given else answers_at front events given

-- ---- what is left

-- the entry is for the row, and it is assigned to the site
abbrev pub is_in_fronts : Instance → ℕ → ℕ → Entry → FrontAnswer → Bool
is_in_fronts it row site entry (Answered answer) = is_in it row site entry answer
is_in_fronts it row site entry NoFront = false

-- how many entries of a row are assigned to a site, by their answers
abbrev pub count_in_fronts : Instance → ℕ → ℕ → List Entry → List FrontAnswer → ℕ
count_in_fronts it row site [] given = 0
count_in_fronts it row site (entry ∷ more) [] = 0
count_in_fronts it row site (entry ∷ more) (answer ∷ given) =
    (if is_in_fronts it row site entry answer then 1 else 0) + count_in_fronts it row site more given

-- the entries of events
abbrev pub entries_of : List Event → List Entry
entries_of events = map (λ (event : Event). event.entry) events

-- how many entries of a row are assigned to a site, by the answers to all events: at a front, and at all fronts
abbrev pub assigned_at : Instance → ℕ → Plan → ℕ → List Event → Plan
assigned_at it fronts x front events row site =
    count_in_fronts it row site (entries_at front events) (answers_at front events (front_answers it fronts x events))

abbrev pub assigned_by_all : Instance → ℕ → Plan → List Event → Plan
assigned_by_all it fronts x events row site =
    count_in_fronts it row site (entries_of events) (front_answers it fronts x events)

-- what events leave of the share of a front
abbrev pub rest_at : Instance → ℕ → Plan → ℕ → List Event → Plan
rest_at it fronts x front events row site =
    share_of fronts front x row site - assigned_at it fronts x front events row site

-- ---- sums

-- how many answers there are of each kind
abbrev pub is_kind : (Answer → Bool) → FrontAnswer → Bool
is_kind kind (Answered answer) = kind answer
is_kind kind NoFront = false

abbrev pub is_no_front : FrontAnswer → Bool
is_no_front (Answered answer) = false
is_no_front NoFront = true

abbrev pub front_sums_of : List FrontAnswer → FrontSums
front_sums_of given = record {
  assigned = count_by (is_kind is_assigned) given;
  spent = count_by (is_kind is_spent) given;
  unknown = count_by (is_kind is_unknown) given;
  no_front = count_by is_no_front given;
}

-- ---- what the fronts hold

-- an instance, how many fronts there are, and for each front the cells that it has left of each row of the instance
pub record Tables : Type 0 where
  pub instance : Instance
  pub fronts : ℕ
  pub shares : List (List (List Cell))

-- what a front holds, nothing where there is no such front
abbrev pub held_at : Tables → ℕ → Held
held_at tables front = record { instance = tables.instance; shares = slice_index_or tables.shares front [] }

-- how many fronts there are
abbrev pub fronts_of : Tables → ℕ
fronts_of tables = tables.fronts

-- what is left of the plan at a front, nothing where there is no such front
abbrev pub left_at_front : Tables → ℕ → Plan
left_at_front tables front = left_of (held_at tables front)

-- what each front holds is in order
pub record AreHeld (tables : Tables) : Type 0 where
  pub within : IsInstance tables.instance
  pub each : (front : ℕ) → front < tables.fronts → IsHeld (held_at tables front)

-- `fronts` fronts, each of which holds its share of the plan
pub record AreFrontsOf (it : Instance) (x : Plan) (fronts : ℕ) (tables : Tables) : Type 0 where
  pub instance : tables.instance ≡ it
  pub many : fronts_of tables ≡ fronts
  pub each : (front : ℕ) → front < fronts → IsSame (left_at_front tables front) (share_of fronts front x)

-- the answer to an entry at a front, by what is left there
abbrev pub answer_among : Tables → ℕ → Entry → FrontAnswer
answer_among tables front entry =
    if nat_lt front (fronts_of tables)
    then Answered (answer_to tables.instance (left_at_front tables front) [] entry) else NoFront

-- an entry is taken of what its front has left; the others have left what they had
pub record IsTakenAt (front : ℕ) (entry : Entry) (old new : Tables) : Type 0 where
  pub instance : new.instance ≡ old.instance
  pub many : fronts_of new ≡ fronts_of old
  pub own : front < fronts_of old
      → IsSame (left_at_front new front) (rest old.instance (left_at_front old front) (entry ∷ []))
  pub others : (other : ℕ) → other ≢ front → IsSame (left_at_front new other) (left_at_front old other)

-- every entry for a row is taken of what a front has left
abbrev pub IsTakenOf : ℕ → ℕ → Tables → Tables → Type 0
IsTakenOf front row old new = (entry : Entry) → row_of old.instance entry ≡ Some row → IsTakenAt front entry old new
