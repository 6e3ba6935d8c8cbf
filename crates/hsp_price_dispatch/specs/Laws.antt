-- What holds of every plan and of every list of queries.
use Rattle.std.specs.Prelude.{◌≡◌, ◌≤◌, ◌<◌, ◌*◌, ◌+◌, ◌==◌, ◌++◌, ◌⊎◌, Bool, false, true, ℕ, List, [], ◌∷◌, All, Some}
use Rattle.std.specs.Prelude.{count_by, length, if◌then◌else◌}
use Rattle.std.specs.List.{Contains}
use Rattle.hsp_instance.specs.declared.arc.Arc.{Arc}
use Rattle.hsp_check.specs.Plan.{is_on}
use Rattle.hsp_transport.specs.Sums.{sum_below}
use Rattle.hsp_prices.specs.Rows.{Service}
use Rattle.hsp_price_text.specs.Claim.{Best}
use Rattle.hsp_prices.specs.Least.{arcs_of, host_at, least_of, pay_over}
use Rattle.hsp_log.specs.Entries.{Entry, each_after, Event, entries_at}
use Rattle.hsp_price_dispatch.specs.Choosing.{answer_by, can_give, choice_for, class_number, fullest, left_by}
use Rattle.hsp_price_dispatch.specs.Choosing.{places_of, row_of}
use Rattle.hsp_price_dispatch.specs.Holding.{Held, cell_at, has_room, host_room_at, is_free, room_at}
use Rattle.hsp_price_dispatch.specs.Starting.{Fits, IsBegun, capacity_at, limit_at}
use Rattle.hsp_price_dispatch.specs.declared.answer.Choice.TheVariants.{OfClass}
use Rattle.hsp_price_dispatch.specs.declared.answer.PriceAnswer.{PriceAnswer}
use Rattle.hsp_price_dispatch.specs.declared.choosing.Place.{Place}
use Rattle.hsp_price_dispatch.specs.declared.answer.PriceAnswer.TheVariants.{Assigned, Diverted, Full, Unknown}

-- ---- queries in turn

-- the answers to queries, each by what the ones before it left
abbrev pub answers_to : Held → List Entry → List PriceAnswer
answers_to own [] = []
answers_to own (entry ∷ entries) = answer_by own entry ∷ answers_to (left_by own entry) entries

-- what they leave
abbrev pub left_after : Held → List Entry → Held
left_after own [] = own
left_after own (entry ∷ entries) = left_after (left_by own entry) entries

-- of a log in two parts, the second is answered by what the first leaves, and leaves what the whole log does
abbrev pub GoesOnWithTheRest : Type 0
GoesOnWithTheRest =
    (own : Held) (entries more : List Entry)
    → (answers_to own (entries ++ more) ≡ answers_to own entries ++ answers_to (left_after own entries) more)
    × (left_after own (entries ++ more) ≡ left_after (left_after own entries) more)

-- whether a query goes to a server that passes a test
abbrev pub goes_to : (ℕ → Bool) → PriceAnswer → Bool
goes_to test (Assigned arc) = test arc.server
goes_to test (Diverted arc) = test arc.server
goes_to test Full = false
goes_to test Unknown = false

-- how many queries go to a server, and to the servers of a host
abbrev pub count_at : ℕ → List PriceAnswer → ℕ
count_at j given = count_by (goes_to (λ k. k == j)) given

abbrev pub count_on : Service → ℕ → List PriceAnswer → ℕ
count_on at h given = count_by (goes_to (λ k. is_on (host_at at k) h)) given

-- ---- room

-- each query that goes to a server takes one of its room, and so it is at a host
abbrev pub TakesRoom : Type 0
TakesRoom =
    (own : Held) (entries : List Entry) (j : ℕ)
    → count_at j (answers_to own entries) + room_at (left_after own entries) j ≡ room_at own j

abbrev pub TakesHostRoom : Type 0
TakesHostRoom =
    (own : Held) (entries : List Entry) (h : ℕ)
    → count_on own.service h (answers_to own entries) + host_room_at (left_after own entries) h ≡ host_room_at own h

-- so no more queries go to a server than it has room at the beginning, and so it is at a host
abbrev pub NeverExceeds : Type 0
NeverExceeds =
    (own : Held) (entries : List Entry)
    → ((j : ℕ) → count_at j (answers_to own entries) ≤ room_at own j)
    × ((h : ℕ) → count_on own.service h (answers_to own entries) ≤ host_room_at own h)

-- fronts that begin with one plan
abbrev pub AreBegun : Service → Best → ℕ → (ℕ → Held) → Type 0
AreBegun at plan fronts begun = (front : ℕ) → front < fronts → IsBegun at plan fronts front (begun front)

-- the room of all fronts together is what a server takes, and what a host takes
abbrev pub RoomsAddUp : Type 0
RoomsAddUp =
    (at : Service) (plan : Best) (fronts : ℕ) (begun : ℕ → Held) → 0 < fronts → Fits at plan
    → AreBegun at plan fronts begun
    → ((j : ℕ) → j < length at.servers → sum_below fronts (λ front. room_at (begun front) j) ≡ capacity_at at j)
    × ((h : ℕ) → h < length at.hosts → sum_below fronts (λ front. host_room_at (begun front) h) ≡ limit_at at h)

-- so all fronts together send no server and no host more than it takes, whatever each is asked
abbrev pub NeverExceedsTogether : Type 0
NeverExceedsTogether =
    (at : Service) (plan : Best) (fronts : ℕ) (begun : ℕ → Held) (entries : ℕ → List Entry) → 0 < fronts
    → Fits at plan → AreBegun at plan fronts begun
    → ((j : ℕ) → j < length at.servers
    → sum_below fronts (λ front. count_at j (answers_to (begun front) (entries front))) ≤ capacity_at at j)
    × ((h : ℕ) → h < length at.hosts
    → sum_below fronts (λ front. count_on at h (answers_to (begun front) (entries front))) ≤ limit_at at h)

-- ---- arcs

-- An assigned query goes over one of its least arcs, and a diverted one over one of its arcs: to a site where its
-- region has a cost, and to the server that its handle's hash fixes there.
abbrev pub GoesOverItsArcs : Type 0
GoesOverItsArcs =
    (own : Held) (entry : Entry) (arc : Arc)
    → (answer_by own entry ≡ Assigned arc → Contains (least_of own.service own.plan (row_of entry)) arc)
    × (answer_by own entry ≡ Diverted arc → Contains (arcs_of own.service (row_of entry)) arc)

-- the least arcs are among the arcs
abbrev pub LeastAreArcs : Type 0
LeastAreArcs =
    (own : Held) (entry : Entry) (arc : Arc)
    → Contains (least_of own.service own.plan (row_of entry)) arc
    → Contains (arcs_of own.service (row_of entry)) arc

-- ---- parts

-- Of the places of a class that can give, none has a greater part of its amount left than the one that is found. No
-- more is left of an amount than the front's share of it.
abbrev pub GivesTheGreatestPart : Type 0
GivesTheGreatestPart =
    (own : Held) (places : List Place) (place : Place) → All (λ other. other.cell.left ≤ other.cell.share) places
    → fullest own places ≡ Some place
    → All (λ other. can_give own other ≡ true
    → other.cell.left * place.cell.share ≤ place.cell.left * other.cell.share) places

-- the arc with its cell, which has the number n
abbrev pub place_numbered : Held → ℕ → Arc → Place
place_numbered own n arc = record { arc = arc; number = n; cell = cell_at own.cells n }

-- it is one of places, and of those that can give none has a greater part of its amount left
pub record HasGreatestPart (own : Held) (places : List Place) (place : Place) : Type 0 where
  pub among : Contains places place
  pub greatest : All (λ other. can_give own other ≡ true
      → other.cell.left * place.cell.share ≤ place.cell.left * other.cell.share) places

-- At a front that began with a plan, a query that gets of an amount, whatever was asked before, gets of the greatest
-- part that is left of the amounts of its class.
abbrev pub AnswersByTheGreatestPart : Type 0
AnswersByTheGreatestPart =
    (at : Service) (plan : Best) (fronts front : ℕ) (begun : Held) (entries : List Entry) (entry : Entry)
    (n : ℕ) (arc : Arc) → IsBegun at plan fronts front begun
    → let own = left_after begun entries in
    let least = least_of own.service own.plan (row_of entry) in
    choice_for own entry ≡ OfClass n arc
    → (k : ℕ) × (class_number own.plan entry.region least ≡ Some k)
    × HasGreatestPart own (places_of own k least) (place_numbered own n arc)

-- ---- diverted

-- no least server has an amount left for a query, or free room
pub record NoLeastGives (own : Held) (entry : Entry) (least : List Arc) : Type 0 where
  pub amounts : (k : ℕ) → class_number own.plan entry.region least ≡ Some k
      → All (λ place. can_give own place ≡ false) (places_of own k least)
  pub rooms : All (λ arc. is_free own arc ≡ false) least

-- an arc is one of some, it passes a test, and none that passes it pays less
pub record PaysLeastOf (own : Held) (test : Arc → Bool) (arcs : List Arc) (arc : Arc) : Type 0 where
  pub among : Contains arcs arc
  pub passes : test arc ≡ true
  pub least : All (λ other. test other ≡ true
      → pay_over own.service own.plan arc ≤ pay_over own.service own.plan other) arcs

-- A query is diverted only where no least server has anything for it. It goes over a free arc that pays least of the
-- free ones. Where none is free, it goes over one that pays least of those with room.
abbrev pub IsDivertedLeast : Type 0
IsDivertedLeast =
    (own : Held) (entry : Entry) (arc : Arc) → answer_by own entry ≡ Diverted arc
    → let arcs = arcs_of own.service (row_of entry) in
    NoLeastGives own entry (least_of own.service own.plan (row_of entry))
    × (PaysLeastOf own (is_free own) arcs arc
    ⊎ (All (λ other. is_free own other ≡ false) arcs × PaysLeastOf own (has_room own) arcs arc))

-- ---- unknown

-- a query is answered by Unknown just where it has no arc: its region has no cost at any site
abbrev pub IsUnknownWithoutCost : Type 0
IsUnknownWithoutCost =
    (own : Held) (entry : Entry)
    → (answer_by own entry ≡ Unknown → arcs_of own.service (row_of entry) ≡ [])
    × (arcs_of own.service (row_of entry) ≡ [] → answer_by own entry ≡ Unknown)

-- ---- full

-- an arc's server has no room left, or its host hasn't
abbrev pub HasNoRoom : Held → Arc → Type 0
HasNoRoom own arc =
    (room_at own arc.server ≡ 0)
    ⊎ ((h : ℕ) × (host_at own.service arc.server ≡ Some h) × (host_room_at own h ≡ 0))

-- a query is answered by Full only where no room is left over any of its arcs
abbrev pub IsFullWithoutRoom : Type 0
IsFullWithoutRoom =
    (own : Held) (entry : Entry) → answer_by own entry ≡ Full
    → All (HasNoRoom own) (arcs_of own.service (row_of entry))

-- ---- fronts

-- An event is answered by what its front began with and by the earlier entries there.
abbrev pub event_answer : (ℕ → Held) → List Event → Event → PriceAnswer
event_answer begun earlier event =
    answer_by (left_after (begun event.front) (entries_at event.front earlier)) event.entry

abbrev pub event_answers : (ℕ → Held) → List Event → List PriceAnswer
event_answers begun events = each_after (event_answer begun) [] events

-- the answers at a front, of the answers to events
abbrev pub answers_at : ℕ → List Event → List PriceAnswer → List PriceAnswer
answers_at front [] given = []
answers_at front (event ∷ events) [] = []
answers_at front (event ∷ events) (answer ∷ given) =
    if event.front == front then answer ∷ answers_at front events given else answers_at front events given

-- what events leave of what a front began with
abbrev pub left_at : (ℕ → Held) → ℕ → List Event → Held
left_at begun front events = left_after (begun front) (entries_at front events)

-- the answers at a front are those to its own entries only
abbrev pub AnswersByItsOwn : Type 0
AnswersByItsOwn =
    (begun : ℕ → Held) (front : ℕ) (events : List Event)
    → answers_at front events (event_answers begun events) ≡ answers_to (begun front) (entries_at front events)

-- lists of events with the same entries at a front have the same answers there, and leave the same there
abbrev pub GoesByItsEntries : Type 0
GoesByItsEntries =
    (begun : ℕ → Held) (front : ℕ) (a b : List Event) → entries_at front a ≡ entries_at front b
    → (answers_at front a (event_answers begun a) ≡ answers_at front b (event_answers begun b))
    × (left_at begun front a ≡ left_at begun front b)

-- two interleavings of the same lists of entries end in the same
abbrev pub EndsInTheSame : Type 0
EndsInTheSame =
    (begun : ℕ → Held) (a b : List Event) → ((front : ℕ) → entries_at front a ≡ entries_at front b)
    → (front : ℕ) → left_at begun front a ≡ left_at begun front b
