-- What holds of fronts, for every instance, every plan and every list of events.
use Rattle.std.specs.Prelude.{◌≡◌, ◌≤◌, ◌<◌, ℕ, List, [], ◌∷◌, ◌++◌, length, map, Some}
use Rattle.std.specs.List.{slice_get}
use Rattle.hsp_instance.specs.Instance.{Instance, IsInstance, Row}
use Rattle.hsp_check.specs.Instance.{network_of}
use Rattle.hsp_check.specs.Plan.{Feasible, Plan}
use Rattle.hsp_transport.specs.Sums.{sum_below}
use Rattle.hsp_dispatch.specs.Desks.{IsLeftBy, answers_by}
use Rattle.hsp_dispatch.specs.Dispatch.{IsSame, answers, row_of}
use Rattle.hsp_dispatch.specs.Fronts.{AreFrontsOf, IsTakenAt, Tables, answer_among, answers_at, assigned_by_all}
use Rattle.hsp_dispatch.specs.Fronts.{front_answer, front_answers, fronts_of, left_at_front, rest_at, share_of}
use Rattle.hsp_dispatch.specs.Fronts.{shares_of}
use Rattle.hsp_log.specs.Entries.{Event, entries_at}
use Rattle.hsp_dispatch.specs.declared.answer.Answer.TheVariants.{Spent}
use Rattle.hsp_dispatch.specs.declared.answer.FrontAnswer.TheVariants.{Answered}

-- what the plan sends of a row to a site is the sum of what the fronts' shares send there
abbrev pub SharesAddUp : Type 0
SharesAddUp =
    (fronts : ℕ) → 0 < fronts → (x : Plan) (row site : ℕ)
    → sum_below fronts (λ front. shares_of fronts x front row site) ≡ x row site

-- the fronts hold what events leave of their shares
pub record AreFrontsAfter (it : Instance) (x : Plan) (fronts : ℕ) (events : List Event) (tables : Tables) : Type 0 where
  pub instance : tables.instance ≡ it
  pub many : fronts_of tables ≡ fronts
  pub each : (front : ℕ) → front < fronts → IsSame (left_at_front tables front) (rest_at it fronts x front events)

-- fronts begin with no events behind them; each event is answered by its front's share and the earlier entries there
abbrev pub BeginsWithShares : Type 0
BeginsWithShares =
    (it : Instance) (x : Plan) (fronts : ℕ) (tables : Tables) → AreFrontsOf it x fronts tables
    → AreFrontsAfter it x fronts [] tables

abbrev pub AnswersByShares : Type 0
AnswersByShares =
    (it : Instance) (x : Plan) (fronts : ℕ) (events : List Event) (event : Event) (old new : Tables)
    → AreFrontsAfter it x fronts events old
    → IsTakenAt event.front event.entry old new
    → (answer_among old event.front event.entry ≡ front_answer it fronts x events event)
    × AreFrontsAfter it x fronts (events ++ event ∷ []) new

-- the answers at a front are those of a dispatcher that has the front's share, to the front's own entries
abbrev pub AnswersAsDispatchers : Type 0
AnswersAsDispatchers =
    (it : Instance) (fronts : ℕ) (x : Plan) (front : ℕ) (events : List Event) → front < fronts
    → answers_at front events (front_answers it fronts x events)
    ≡ map Answered (answers it (share_of fronts front x) (entries_at front events))

-- Fronts hold what events leave of their shares. Then they answer more events as those stand in one list, and hold
-- what that list leaves.
abbrev pub FrontsGoOn : Type 0
FrontsGoOn =
    (it : Instance) (x : Plan) (fronts : ℕ) (events more : List Event) (old new : Tables)
    → AreFrontsAfter it x fronts events old → IsLeftBy old more new
    → (front_answers it fronts x (events ++ more) ≡ front_answers it fronts x events ++ answers_by old more)
    × AreFrontsAfter it x fronts (events ++ more) new

-- lists of events with the same entries at a front have the same answers there, and leave the same of its share
abbrev pub GoesByItsEntries : Type 0
GoesByItsEntries =
    (it : Instance) (fronts : ℕ) (x : Plan) (front : ℕ) (a b : List Event) → entries_at front a ≡ entries_at front b
    → (answers_at front a (front_answers it fronts x a) ≡ answers_at front b (front_answers it fronts x b))
    × IsSame (rest_at it fronts x front a) (rest_at it fronts x front b)

-- two interleavings of the same lists of entries end in the same tables
abbrev pub EndsInTheSame : Type 0
EndsInTheSame =
    (it : Instance) (fronts : ℕ) (x : Plan) (a b : List Event) → ((front : ℕ) → entries_at front a ≡ entries_at front b)
    → (front : ℕ) → IsSame (rest_at it fronts x front a) (rest_at it fronts x front b)

-- all fronts together have no more of a row's entries assigned to a site than the plan sends there
abbrev pub NeverExceedsTogether : Type 0
NeverExceedsTogether =
    (it : Instance) (fronts : ℕ) (x : Plan) (events : List Event) (row site : ℕ) → 0 < fronts
    → assigned_by_all it fronts x events row site ≤ x row site

-- among the events is one at the front, of the row, that is answered by Spent
pub record WasSpentAt (it : Instance) (fronts : ℕ) (x : Plan) (row front : ℕ) (events : List Event) : Type 0 where
  pub earlier : List Event
  pub event : Event
  pub later : List Event
  pub parts : events ≡ earlier ++ event ∷ later
  pub at : event.front ≡ front
  pub of_row : row_of it event.entry ≡ Some row
  pub spent : front_answer it fronts x earlier event ≡ Answered Spent

-- where each front has answered an entry of a row by Spent, all that the plan sends of the row was assigned
abbrev pub IsSpentTogether : Type 0
IsSpentTogether =
    (it : Instance) (fronts : ℕ) (x : Plan) (events : List Event) (row site : ℕ) → 0 < fronts
    → ((front : ℕ) → front < fronts → WasSpentAt it fronts x row front events) → site < length it.sites
    → assigned_by_all it fronts x events row site ≡ x row site

-- and where the plan is feasible, that is the whole number of the row
abbrev pub IsServedTogether : Type 0
IsServedTogether =
    (it : Instance) (fronts : ℕ) (x : Plan) (events : List Event) (row : ℕ) (own : Row) → IsInstance it
    → Feasible (network_of it) x → 0 < fronts
    → slice_get it.rows row ≡ Some own → ((front : ℕ) → front < fronts → WasSpentAt it fronts x row front events)
    → sum_below (length it.sites) (λ site. assigned_by_all it fronts x events row site) ≡ own.count
