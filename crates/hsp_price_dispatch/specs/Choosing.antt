-- How a query is answered by what a front holds, and what the answer leaves.
use Rattle.std.specs.Prelude.{ℕ, ◌+◌, ◌*◌, ◌&&◌, Bool, List, [], ◌∷◌, Option, None, Some, drop, filter, length, nat_lt}
use Rattle.std.specs.Prelude.{◌<◌, ⊤, position, slice_index_or, take, if◌then◌else◌}
use Rattle.std.specs.List.{flat_map}
use Rattle.hsp_instance.specs.Building.{or_else}
use Rattle.hsp_instance.specs.Instance.{Row}
use Rattle.hsp_instance.specs.RowArcs.{row_named}
use Rattle.hsp_instance.specs.declared.arc.Arc.{Arc}
use Rattle.hsp_prices.specs.Rows.{Service}
use Rattle.hsp_price_text.specs.Claim.{Best, Class}
use Rattle.hsp_prices.specs.Least.{arcs_of, least_arcs, least_of, pay_over, servers_of}
use Rattle.hsp_prices.specs.Sums.{sends}
use Rattle.hsp_log.specs.Entries.{Entry}
use Rattle.hsp_price_check.specs.ClassNumbers.{is_named}
use Rattle.hsp_price_dispatch.specs.Holding.{Held, cell_at, has_room, has_room_at, is_free, is_free_at, with_given}
use Rattle.hsp_price_dispatch.specs.Holding.{with_query_at}
use Rattle.hsp_price_dispatch.specs.declared.answer.Choice.{Choice}
use Rattle.hsp_price_dispatch.specs.declared.answer.Choice.TheVariants as choice
use Rattle.hsp_price_dispatch.specs.declared.answer.PriceAnswer.{PriceAnswer}
use Rattle.hsp_price_dispatch.specs.declared.answer.PriceAnswer.TheVariants as answer
use Rattle.hsp_price_dispatch.specs.declared.cells.Cell.{Cell}
use Rattle.hsp_price_dispatch.specs.declared.choosing.Place.{Place}
use Rattle.hsp_price_dispatch.specs.declared.choosing.Wanted.{Wanted}
use Rattle.hsp_price_dispatch.specs.declared.choosing.Wanted.TheVariants as wanted

-- ---- least arcs

-- least arcs, and the number of their class, if they have one
pub record Least : Type 0 where
  pub arcs : List Arc
  pub class : Option ℕ

-- the class of a region and several least arcs
abbrev pub class_number : Best → List ℕ → List Arc → Option ℕ
class_number plan region [] = None
class_number plan region (arc ∷ []) = None
class_number plan region (arc ∷ other ∷ more) =
    position (is_named region (servers_of (arc ∷ other ∷ more))) plan.classes

-- arcs with the class of a region and them
abbrev pub with_class : Best → List ℕ → List Arc → Least
with_class plan region arcs = record { arcs = arcs; class = class_number plan region arcs }

-- the least arcs of a query for a handle from a region
abbrev pub least_for : Service → Best → List ℕ → List ℕ → Least
least_for at plan region handle = with_class plan region (least_of at plan (row_named region handle 1))

-- ---- by a class

-- the number of the first cell of a class: there is a cell for each server of the classes before it
abbrev pub first_cell : List Class → ℕ → ℕ
first_cell classes k = length (flat_map sends (take k classes))

-- arcs, each with the cell at its place, which are numbered from n on
abbrev pub places_from : ℕ → List Arc → List Cell → List Place
places_from n [] cells = []
places_from n (arc ∷ arcs) [] = []
places_from n (arc ∷ arcs) (cell ∷ cells) =
    record { arc = arc; number = n; cell = cell } ∷ places_from (n + 1) arcs cells

-- what stands past the end of arcs
abbrev pub no_arc : Arc
no_arc = record { site = 0; server = 0; cost = 0 }

-- the place of an arc, where the cell of the first one has the number n
abbrev pub place_at : List Cell → ℕ → List Arc → ℕ → Place
place_at cells n arcs at =
    record { arc = slice_index_or arcs at no_arc; number = n + at; cell = cell_at cells (n + at) }

-- the places of a class, over the least arcs of its rows
abbrev pub places_of : Held → ℕ → List Arc → List Place
places_of own k least =
    places_from (first_cell own.plan.classes k) least (drop (first_cell own.plan.classes k) own.cells)

-- something is left of the amount, and there is room
abbrev pub can_give : Held → Place → Bool
can_give own place = nat_lt 0 place.cell.left && has_room own place.arc

-- a greater part is left of the first amount than of the second
abbrev pub is_fuller : Cell → Cell → Bool
is_fuller a b = nat_lt (b.left * a.share) (a.left * b.share)

-- the place of which the greater part is left, the first where the parts are the same
abbrev pub fuller : Place → Option Place → Place
fuller place None = place
fuller place (Some later) = if is_fuller later.cell place.cell then later else place

-- the place of which the greatest part is left, of those that can give, the first of such places
abbrev pub fullest : Held → List Place → Option Place
fullest own [] = None
fullest own (place ∷ places) =
    if can_give own place then Some (fuller place (fullest own places)) else fullest own places

abbrev pub by_place : Option Place → Option Choice
by_place None = None
by_place (Some place) = Some (choice.OfClass place.number place.arc)

abbrev pub by_class : Held → List Arc → Option ℕ → Option Choice
by_class own least None = None
by_class own least (Some k) = by_place (fullest own (places_of own k least))

-- ---- by room

abbrev pub at_first : (Arc → Choice) → List Arc → Option Choice
at_first by [] = None
at_first by (arc ∷ arcs) = Some (by arc)

-- over the first of the least arcs with free room
abbrev pub by_room : Held → List Arc → Option Choice
by_room own least = at_first choice.Free (filter (is_free own) least)

-- room of a kind is left at a server, and at that of an arc
abbrev pub has_wanted_at : Held → Wanted → ℕ → Bool
has_wanted_at own wanted.Free j = is_free_at own j
has_wanted_at own wanted.Any j = has_room_at own j

abbrev pub has_wanted : Held → Wanted → Arc → Bool
has_wanted own kind arc = has_wanted_at own kind arc.server

-- over the first arc of least pay, of those that pass a test
abbrev pub diverted : Held → (Arc → Bool) → List Arc → Option Choice
diverted own test arcs = at_first choice.Diverted (least_arcs (pay_over own.service own.plan) (filter test arcs))

-- over an arc with free room, and otherwise over one with room that is held for others
abbrev pub elsewhere : Held → List Arc → Option Choice
elsewhere own arcs = or_else (diverted own (is_free own) arcs) (diverted own (has_room own) arcs)

-- ---- the choice

abbrev pub or_full : Option Choice → Choice
or_full None = choice.Full
or_full (Some by) = by

-- by a class, and otherwise by free room over one of the least arcs
abbrev pub assigned_over : Held → Least → Option Choice
assigned_over own least = or_else (by_class own least.arcs least.class) (by_room own least.arcs)

abbrev pub assigned : Held → List ℕ → List Arc → Option Choice
assigned own region least = assigned_over own (with_class own.plan region least)

-- what a query with these least arcs, and these arcs, is answered by
abbrev pub choice_over : Held → Least → List Arc → Choice
choice_over own least [] = choice.Unknown
choice_over own least (arc ∷ arcs) = or_full (or_else (assigned_over own least) (elsewhere own (arc ∷ arcs)))

-- what a query from a region with these arcs and least arcs is answered by
abbrev pub choice_among : Held → List ℕ → List Arc → List Arc → Choice
choice_among own region arcs least = choice_over own (with_class own.plan region least) arcs

-- the row of an entry, which asks for one query
abbrev pub row_of : Entry → Row
row_of entry = row_named entry.region entry.handle 1

abbrev pub choice_for : Held → Entry → Choice
choice_for own entry =
    choice_among own entry.region (arcs_of own.service (row_of entry)) (least_of own.service own.plan (row_of entry))

-- ---- the answer

abbrev pub answer_of : Choice → PriceAnswer
answer_of (choice.OfClass n arc) = answer.Assigned arc
answer_of (choice.Free arc) = answer.Assigned arc
answer_of (choice.Diverted arc) = answer.Diverted arc
answer_of choice.Full = answer.Full
answer_of choice.Unknown = answer.Unknown

-- an answer names one of so many servers, if any
abbrev pub LeadsWithin : ℕ → PriceAnswer → Type 0
LeadsWithin servers (answer.Assigned arc) = arc.server < servers
LeadsWithin servers (answer.Diverted arc) = arc.server < servers
LeadsWithin servers answer.Full = ⊤
LeadsWithin servers answer.Unknown = ⊤

abbrev pub answer_by : Held → Entry → PriceAnswer
answer_by own entry = answer_of (choice_for own entry)

-- ---- what is left

abbrev pub left_with : Held → Choice → Held
left_with own (choice.OfClass n arc) = with_given (with_query_at own arc.server) n
left_with own (choice.Free arc) = with_query_at own arc.server
left_with own (choice.Diverted arc) = with_query_at own arc.server
left_with own choice.Full = own
left_with own choice.Unknown = own

abbrev pub left_by : Held → Entry → Held
left_by own entry = left_with own (choice_for own entry)
