-- Queries that ask for no more than the plan has are assigned by one front.
use Rattle.std.proofs.Common.{◌≡◌, ◌<◌, ◌≤◌, ◌+◌, ◌-◌, ◌==◌, ◌∙◌, ℕ, zero, suc, Bool, true, false, List, [], ◌∷◌, All}
use Rattle.std.proofs.Common.{None, Option, Some, ap, arith, drop, eq-eqb, get_or, if◌then◌else◌, inl, inr}
use Rattle.std.proofs.Common.{get_or-set_other, get_or-set_same, is_some, length, length-set, map, nat_lt, position}
use Rattle.std.proofs.Common.{refl, slice_index, slice_set, subst, sum, sym, take, ne_eqb}
use Rattle.std.specs.List.{AllByRecursion, flat_map, zip}
use Rattle.std.proofs.lemmas.List.Concat.{get_or-flat_map}
use Rattle.std.proofs.lemmas.Bool.{and_from, and_parts, cases_eq, cases_lt, lt-ltb, ltb-true, true≢false}
use Rattle.std.proofs.lemmas.List.{get_or_default, take_all, drop_all, drop_more, get_or-map, get_or_past, length-map}
use Rattle.std.proofs.lemmas.List.Elements.{All-from_recursion, All-head, All-tail}
use Rattle.std.proofs.lemmas.List.Quantifiers.{position-Some}
use Rattle.std.proofs.lemmas.List.Sums.{sum_by-cons}
use Rattle.std.proofs.lemmas.Slice.Eq.{bytes_eq-Decides}
use Rattle.std.specs.Str.{bytes_eq}
use Rattle.hsp_check.specs.Plan.{is_on}
use Rattle.hsp_instance.specs.declared.arc.Arc.{Arc}
use Rattle.hsp_price_text.specs.Claim.{Best, Class, is_best}
use Rattle.hsp_instance.specs.Instance.{Host, Server}
use Rattle.hsp_prices.specs.Least.{arcs_of, host_at, least_arcs, least_of, only_arc, pay_over, servers_of}
use Rattle.hsp_prices.specs.Sums.{sends, host_load_at, load_at}
use Rattle.hsp_prices.proofs.GivenClasses.{IsGiven, given_classes}
use Rattle.hsp_log.specs.Entries.{Entry}
use Rattle.hsp_log.specs.FrontShares.{share}
use Rattle.hsp_log.proofs.FrontShares.{shares_add_up}
use Rattle.hsp_transport.specs.Sums.{sum_below}
use Rattle.hsp_transport.proofs.Summing.{by_place as by_places, sum_below_same}
use Rattle.hsp_price_check.specs.ClassNumbers.{is_named}
use Rattle.hsp_price_check.specs.Passed.{class_at, no_class}
use Rattle.hsp_price_dispatch.specs.Choosing.{answer_by, answer_of, assigned, by_class, by_place, by_room, can_give}
use Rattle.hsp_price_dispatch.specs.Choosing.{choice_for, class_number, elsewhere, first_cell, fuller, fullest, left_by}
use Rattle.hsp_price_dispatch.specs.Choosing.{left_with, no_arc, place_at, places_from, places_of, row_of}
use Rattle.hsp_price_dispatch.specs.Holding.{Held, cell_at, has_room_at, held_at, host_held_at, host_passes}
use Rattle.hsp_price_dispatch.specs.Holding.{host_room_at, is_free, left_where, no_cell, one_given, room_at, with_given}
use Rattle.hsp_price_dispatch.specs.Holding.{with_query_at}
use Rattle.hsp_price_dispatch.specs.Planned.{only_least_where, asked_at, has_only, has_place, is_assigned, is_number}
use Rattle.hsp_price_dispatch.specs.Planned.{AreWithinPlan, IsServedByPlan, is_placed}
use Rattle.hsp_price_dispatch.specs.Laws.{answers_to, count_at, left_after}
use Rattle.hsp_price_dispatch.specs.Starting.{Fits, IsBegun, capacity_at, cell_of, cells_of, limit_at}
use Rattle.hsp_price_dispatch.specs.declared.answer.Choice.{Choice}
use Rattle.hsp_price_dispatch.specs.declared.answer.Choice.TheVariants.{OfClass, Free}
use Rattle.hsp_price_dispatch.specs.declared.answer.Choice.TheVariants as choice
use Rattle.hsp_price_dispatch.specs.declared.cells.Cell.{Cell}
use Rattle.hsp_price_dispatch.specs.declared.choosing.Place.{Place}
use Rattle.hsp_price_dispatch.proofs.Chosen.{OnPlace, free_room, on_fullest}
use Rattle.hsp_price_dispatch.proofs.ClassParts.{cells_apart, left_from, left_kept, left_less, some_left}
use Rattle.hsp_price_dispatch.proofs.Held.{given_left, some_left as some_where}
use Rattle.hsp_price_dispatch.proofs.Indexing.{choice_some, full_first, or_first, several_have}
use Rattle.hsp_price_dispatch.proofs.Begun.{cells_enough, cells_many}
use Rattle.hsp_price_dispatch.proofs.FirstCells.{next_cell, sends_many}
use Rattle.hsp_price_dispatch.proofs.Fronts.{sends_there}
use Rattle.hsp_price_dispatch.proofs.RoomTaken.{host_takes, one_if, server_takes, takes_room}
use Rattle.hsp_price_dispatch.proofs.Sums.{all_sends, host_load_is, left_is, load_is, sent_where, shares_together}
use Rattle.hsp_price_dispatch.proofs.Sums.{whole}

-- ---- places

-- the place is one of those of the arcs
abbrev pub IsAt : List Cell → ℕ → List Arc → Place → Type 0
IsAt cells n arcs place = (i : ℕ) × (i < length arcs) × (place ≡ place_at cells n arcs i)

-- a place behind the first arc
one_later : (cells : List Cell) (n : ℕ) (arc : Arc) (arcs : List Arc) (place : Place) → IsAt cells (n + 1) arcs place
    → IsAt cells n (arc ∷ arcs) place
one_later cells n arc arcs place is =
    let e : (n + 1) + is.0 ≡ n + suc is.0 = omega arith in
    let same : place_at cells (n + 1) arcs is.0 ≡ place_at cells n (arc ∷ arcs) (suc is.0) =
    ap (λ (k : ℕ). let p : Place = record { arc = get_or arcs is.0 no_arc; number = k; cell = cell_at cells k } in p)
    e in
    (suc is.0, omega (arith, is.1), is.2 ∙ same)

-- so are all places behind it
all_later : (cells : List Cell) (n : ℕ) (arc : Arc) (arcs : List Arc) (places : List Place)
    → AllByRecursion (IsAt cells (n + 1) arcs) places → AllByRecursion (IsAt cells n (arc ∷ arcs)) places
all_later cells n arc arcs [] all = tt
all_later cells n arc arcs (place ∷ places) all =
    (one_later cells n arc arcs place all.0, all_later cells n arc arcs places all.1)

-- each place is at its arc
pub all_at : (cells : List Cell) (n : ℕ) (arcs : List Arc)
    → AllByRecursion (IsAt cells n arcs) (places_from n arcs (drop n cells))
all_at cells n [] = tt
all_at cells n (arc ∷ arcs) = elim (cases_lt n (length cells)) [
  | inl inside ↦
      let e : n ≡ n + 0 = omega arith in
      let first : IsAt cells n (arc ∷ arcs) (record { arc = arc; number = n; cell = cell_at cells n }) = (
        0,
        omega arith,
        ap (λ (k : ℕ). let p : Place = record { arc = arc; number = k; cell = cell_at cells k } in p)
            e,
      ) in
      rw (drop_more cells n no_cell inside)
      (first, all_later cells n arc arcs (places_from (n + 1) arcs (drop (n + 1) cells)) (all_at cells (n + 1) arcs))
  | inr past ↦ rw (drop_all n cells past) tt
]

-- where no place is found none can give
none_next : (own : Held) (t : Bool) (place : Place) (o : Option Place) → can_give own place ≡ t
    → (if t then Some (fuller place o) else o) ≡ None → (can_give own place ≡ false) × (o ≡ None)
none_next own true place o e none = absurd (cc (none))
none_next own false place o e none = (e, none)

-- so no place of an arc can give
none_gives : (own : Held) (cells : List Cell) (n : ℕ) (arcs : List Arc) (i : ℕ) → i < length arcs
    → n + length arcs ≤ length cells → fullest own (places_from n arcs (drop n cells)) ≡ None
    → can_give own (place_at cells n arcs i) ≡ false
none_gives own cells n [] i inside room none = absurd (omega arith)
none_gives own cells n (arc ∷ arcs) zero inside room none =
    let low : n < length cells = omega arith in
    let first : Place = record { arc = arc; number = n; cell = cell_at cells n } in
    let shown = rw (drop_more cells n no_cell low) at none in
    let e : n ≡ n + 0 = omega arith in
    let own_none =
    none_next own (can_give own first) first (fullest own (places_from (n + 1) arcs (drop (n + 1) cells))) refl shown in
    subst
    (λ (k : ℕ). can_give own (let p : Place = record { arc = arc; number = k; cell = cell_at cells k } in p) ≡ false) e
    own_none.0
none_gives own cells n (arc ∷ arcs) (suc i) inside room none =
    let low : n < length cells = omega arith in
    let first : Place = record { arc = arc; number = n; cell = cell_at cells n } in
    let shown = rw (drop_more cells n no_cell low) at none in
    let e : (n + 1) + i ≡ n + suc i = omega arith in
    let own_none =
    none_next own (can_give own first) first (fullest own (places_from (n + 1) arcs (drop (n + 1) cells))) refl shown in
    let more = none_gives own cells (n + 1) arcs i (omega arith) (omega arith) own_none.1 in
    subst
    (λ (k : ℕ). can_give own
    (let p : Place = record { arc = get_or arcs i no_arc; number = k; cell = cell_at cells k } in p) ≡ false) e more

-- ---- the class of a query

-- a number that is there
some_of : (o : Option ℕ) → is_some o ≡ true → (k : ℕ) × (o ≡ Some k)
some_of None e = absurd (true≢false (sym e))
some_of (Some k) e = (k, refl)

-- its class has its least servers
class_servers : (plan : Best) (region : List ℕ) (least : List Arc) (k : ℕ)
    → position (is_named region (servers_of least)) plan.classes ≡ Some k
    → (k < length plan.classes) × ((class_at plan k).servers ≡ servers_of least)
class_servers plan region least k found =
    let at = position-Some (is_named region (servers_of least)) plan.classes k no_class found in
    let own =
    and_parts (bytes_eq (class_at plan k).region region) (bytes_eq (class_at plan k).servers (servers_of least)) at.1 in
    (at.0, (bytes_eq-Decides (class_at plan k).servers (servers_of least)).0 own.1)

-- an arc among the least ones is one among the arcs
arcs_some : (pay : Arc → ℕ) (arcs : List Arc) → 0 < length (least_arcs pay arcs) → 0 < length arcs
arcs_some pay [] some = some
arcs_some pay (x ∷ xs) some = omega arith

-- the server of a cell stays
server_stays : (cells : List Cell) (n k : ℕ)
    → (cell_at (slice_set cells n (one_given (cell_at cells n))) k).server ≡ (cell_at cells k).server
server_stays cells n k = elim (cases_eq k n) [
  | inl same ↦ elim (cases_lt n (length cells)) [
    | inl inside ↦
        let is : cell_at (slice_set cells n (one_given (cell_at cells n))) n ≡ one_given (cell_at cells n) =
        get_or-set_same cells n (one_given (cell_at cells n)) no_cell inside in
        rw same (ap (λ (cell : Cell). cell.server) is)
    | inr past ↦
        let long = length-set cells n (one_given (cell_at cells n)) in
        let a : cell_at (slice_set cells n (one_given (cell_at cells n))) k ≡ no_cell =
        get_or_past (slice_set cells n (one_given (cell_at cells n))) k no_cell (omega (arith, long, same, past)) in
        let b : cell_at cells k ≡ no_cell = get_or_past cells k no_cell (omega (arith, same, past)) in
        ap (λ (cell : Cell). cell.server) (a ∙ sym b)
  ]
  | inr other ↦
      ap (λ (cell : Cell). cell.server)
      (get_or-set_other cells n k (one_given (cell_at cells n)) no_cell other)
]

-- ---- what a front has, and what is still asked

pub record IsReady (own : Held) (entries : List Entry) (slack host_slack class_slack : ℕ → ℕ) : Type 0 where
  pub placed : All (λ entry. is_placed own.service own.plan entry ≡ true) entries
  pub many : (k : ℕ) → k < length own.plan.classes
      → length (sends (class_at own.plan k)) ≡ length (class_at own.plan k).servers
  pub inside : (k : ℕ) → k < length own.plan.classes
      → first_cell own.plan.classes k + length (class_at own.plan k).servers ≤ length own.cells
  pub servers : (k i : ℕ) → k < length own.plan.classes → i < length (class_at own.plan k).servers
      → (cell_at own.cells (first_cell own.plan.classes k + i)).server ≡ slice_index (class_at own.plan k).servers i
  pub classes : (k : ℕ) → k < length own.plan.classes
      → left_from own.cells (first_cell own.plan.classes k) (length (class_at own.plan k).servers)
      ≡ asked_at own.service own.plan k entries + class_slack k
  pub all_cells : length own.cells ≡ first_cell own.plan.classes (length own.plan.classes)
  pub rooms : (j : ℕ) → room_at own j
      ≡ held_at own j + (only_least_where own.service own.plan (λ i. i == j) entries + slack j)
  pub host_rooms : (h : ℕ) → host_room_at own h
      ≡ host_held_at own h
      + (only_least_where own.service own.plan (λ i. is_on (host_at own.service i) h) entries + host_slack h)

module _ (own : Held) (entry : Entry) (entries : List Entry) (slack host_slack class_slack : ℕ → ℕ)
    (is : IsReady own (entry ∷ entries) slack host_slack class_slack) where
  abbrev arcs : List Arc
  arcs = arcs_of own.service (row_of entry)

  abbrev least : List Arc
  least = least_of own.service own.plan (row_of entry)

  abbrev class : Option ℕ
  class = class_number own.plan entry.region least

  -- one query more, with only one least server or not
  alone_split : (test : ℕ → Bool)
      → only_least_where own.service own.plan test (entry ∷ entries)
      ≡ has_only test (only_arc least) + only_least_where own.service own.plan test entries
  alone_split test =
      sum_by-cons
      (λ (e : Entry). has_only test (only_arc (least_of own.service own.plan (row_of e)))) entry entries

  -- one query more of a class or not
  asked_split : (k : ℕ)
      → asked_at own.service own.plan k (entry ∷ entries)
      ≡ one_if (is_number k class) + asked_at own.service own.plan k entries
  asked_split k =
      sum_by-cons
      (λ (e : Entry). if is_number k (class_number own.plan e.region (least_of own.service own.plan (row_of e)))
      then 1 else 0) entry entries

  module _ (arc : Arc) (one : least ≡ arc ∷ []) where
    -- the one least arc is counted
    alone_one : (test : ℕ → Bool) → has_only test (only_arc least) ≡ one_if (test arc.server)
    alone_one test = ap (λ (list : List Arc). has_only test (only_arc list)) one

    -- its host has free room, if there is one
    host_free : (o : Option ℕ) → host_at own.service arc.server ≡ o
        → host_passes o (λ h. nat_lt (host_held_at own h) (host_room_at own h)) ≡ true
    host_free None e = refl
    host_free (Some h) e =
        let test = λ (i : ℕ). is_on (host_at own.service i) h in
        let on : one_if (test arc.server) ≡ 1 = rw (e, eq-eqb h h refl) refl in
        lt-ltb (host_held_at own h) (host_room_at own h)
        (omega (arith, is.host_rooms h, alone_split test, alone_one test, on))

    -- so has the server
    free : is_free own arc ≡ true
    free =
        let j = arc.server in
        let here : one_if (j == j) ≡ 1 = rw (eq-eqb j j refl) refl in
        and_from (nat_lt (held_at own j) (room_at own j))
        (host_passes (host_at own.service j) (λ h. nat_lt (host_held_at own h) (host_room_at own h)))
        (lt-ltb (held_at own j) (room_at own j)
        (omega (arith, is.rooms j, alone_split (λ i. i == j), alone_one (λ i. i == j), here)))
        (host_free (host_at own.service j) refl)

    -- the query goes there
    pub chosen_alone : choice_for own entry ≡ Free arc
    chosen_alone =
        let some : 0 < length arcs =
        arcs_some (pay_over own.service own.plan) arcs
        (subst (λ (list : List Arc). 0 < length list) (sym one) (omega arith)) in
        let by : Some (Free arc) ≡ assigned own entry.region least = rw (one, free) refl in
        choice_some own entry.region arcs least some
        ∙ sym (full_first (Free arc) (assigned own entry.region least) (elsewhere own arcs) by)

    -- it is of no class
    no_number : (k : ℕ) → one_if (is_number k class) ≡ 0
    no_number k =
        ap (λ (list : List Arc). one_if (is_number k (class_number own.plan entry.region list))) one

    -- and the rest has as much as it asks for
    pub ready_alone : IsReady (with_query_at own arc.server) entries slack host_slack class_slack
    ready_alone =
        let room = free_room own arc.server free in
        record {
          placed = All-tail (λ e. is_placed own.service own.plan e ≡ true) entry entries is.placed;
          many = is.many;
          inside = is.inside;
          servers = is.servers;
          classes = λ k l. omega (arith, is.classes k l, asked_split k, no_number k);
          all_cells = is.all_cells;
          rooms = λ j.
              omega (
                arith,
                is.rooms j,
                alone_split (λ i. i == j),
                alone_one (λ i. i == j),
                server_takes own arc.server j room,
              );
          host_rooms = λ h.
              omega (
                arith,
                is.host_rooms h,
                alone_split (λ i. is_on (host_at own.service i) h),
                alone_one (λ i. is_on (host_at own.service i) h),
                host_takes own arc.server h room,
              );
        }

  module _ (k : ℕ) (several : 2 ≤ length least) (of_class : class ≡ Some k) where
    abbrev first : ℕ
    first = first_cell own.plan.classes k

    abbrev servers : List ℕ
    servers = (class_at own.plan k).servers

    -- the class is there, with these servers
    found : (k < length own.plan.classes) × (servers ≡ servers_of least)
    found =
        class_servers own.plan entry.region least k
        (sym (several_have own.plan entry.region least several) ∙ of_class)

    -- it has as many servers as there are least arcs
    long : length servers ≡ length least
    long = ap (λ (list : List ℕ). length list) found.1 ∙ length-map least (λ arc. arc.server)

    -- its cells are there
    room_there : first + length least ≤ length own.cells
    room_there = omega (arith, is.inside k found.0, long)

    -- the arc and the cell at a place are of one server
    one_server : (i : ℕ) → i < length least → (get_or least i no_arc).server ≡ (cell_at own.cells (first + i)).server
    one_server i l =
        let cell = is.servers k i found.0 (omega (arith, l, long)) in
        let arc : slice_index (servers_of least) i ≡ (get_or least i no_arc).server =
        get_or-map (λ (arc : Arc). arc.server) least i no_arc 0 l in
        let same : slice_index servers i ≡ slice_index (servers_of least) i =
        ap (λ (list : List ℕ). slice_index list i) found.1 in
        sym (cell ∙ same ∙ arc)

    -- where something is left there is room
    host_roomy : (i : ℕ) → i < length least → 0 < (cell_at own.cells (first + i)).left → (o : Option ℕ)
        → host_at own.service (cell_at own.cells (first + i)).server ≡ o
        → host_passes o (λ h. nat_lt 0 (host_room_at own h)) ≡ true
    host_roomy i l left None e = refl
    host_roomy i l left (Some h) e =
        let n = first + i in
        let test = λ (j : ℕ). is_on (host_at own.service j) h in
        let on : test (cell_at own.cells n).server ≡ true = rw (e, eq-eqb h h refl) refl in
        let held = some_where test own.cells n (omega (arith, l, room_there)) left on in
        lt-ltb 0 (host_room_at own h) (omega (arith, is.host_rooms h, held))

    -- so it is at the server
    roomy : (i : ℕ) → i < length least → 0 < (cell_at own.cells (first + i)).left
        → has_room_at own (cell_at own.cells (first + i)).server ≡ true
    roomy i l left =
        let n = first + i in
        let j = (cell_at own.cells n).server in
        let held =
        some_where (λ s. s == j) own.cells n (omega (arith, l, room_there)) left (eq-eqb j j refl) in
        and_from (nat_lt 0 (room_at own j)) (host_passes (host_at own.service j) (λ h. nat_lt 0 (host_room_at own h)))
        (lt-ltb 0 (room_at own j) (omega (arith, is.rooms j, held)))
        (host_roomy i l left (host_at own.service j) refl)

    -- so the place can give
    gives : (i : ℕ) → i < length least → 0 < (cell_at own.cells (first + i)).left
        → can_give own (place_at own.cells first least i) ≡ true
    gives i l left =
        let room : has_room_at own (get_or least i no_arc).server ≡ true = rw (one_server i l) (roomy i l left) in
        and_from (nat_lt 0 (cell_at own.cells (first + i)).left) (has_room_at own (get_or least i no_arc).server)
        (lt-ltb 0 (cell_at own.cells (first + i)).left left) room

    -- the class is asked for one at least
    asked_one : one_if (is_number k class) ≡ 1
    asked_one = rw (of_class, eq-eqb k k refl) refl

    -- something is left in one of its cells
    some_cell : (i : ℕ) × (i < length servers) × (0 < (cell_at own.cells (first + i)).left)
    some_cell =
        some_left own.cells first (length servers) (omega (arith, is.classes k found.0, asked_split k, asked_one))

    -- so a place is found
    place_found : (o : Option Place) → fullest own (places_of own k least) ≡ o
        → (place : Place) × (fullest own (places_of own k least) ≡ Some place)
        × IsAt own.cells first least place × (can_give own place ≡ true)
    place_found None none =
        let inside : some_cell.0 < length least = omega (arith, some_cell.1, long) in
        absurd (true≢false (sym (gives some_cell.0 inside some_cell.2)
        ∙ none_gives own own.cells first least some_cell.0 inside room_there none))
    place_found (Some place) some =
        let on : OnPlace own (IsAt own.cells first least) (fullest own (places_of own k least)) =
        on_fullest own (IsAt own.cells first least) (places_of own k least) (all_at own.cells first least) in
        let here : OnPlace own (IsAt own.cells first least) (Some place) =
        subst (λ (o : Option Place). OnPlace own (IsAt own.cells first least) o) some on in
        (place, some, here.0, here.1)

    -- and the query is answered there
    chosen_class : (place : Place) → fullest own (places_of own k least) ≡ Some place
        → choice_for own entry ≡ OfClass place.number place.arc
    chosen_class place some =
        let by = OfClass place.number place.arc in
        let nonempty : 0 < length arcs = arcs_some (pay_over own.service own.plan) arcs (omega (arith, several)) in
        let own_by : Some by ≡ by_class own least class =
        sym (ap (by_class own least) of_class ∙ ap by_place some) in
        let first_by : Some by ≡ assigned own entry.region least =
        or_first by (by_class own least class) (by_room own least) own_by in
        choice_some own entry.region arcs least nonempty
        ∙ sym (full_first by (assigned own entry.region least) (elsewhere own arcs) first_by)

    -- a query of a class has several least servers
    not_alone : (test : ℕ → Bool) (list : List Arc) → 2 ≤ length list → has_only test (only_arc list) ≡ 0
    not_alone test [] l = absurd (omega arith)
    not_alone test (a ∷ []) l = absurd (omega arith)
    not_alone test (a ∷ b ∷ more) l = refl

    module _ (i : ℕ) (inside : i < length least) (left : 0 < (cell_at own.cells (first + i)).left) where
      abbrev n : ℕ
      n = first + i

      abbrev j : ℕ
      j = (get_or least i no_arc).server

      abbrev new : Held
      new = with_given (with_query_at own j) n

      -- the cell is there
      there : n < length own.cells
      there = omega (arith, inside, room_there)

      -- and its server has room
      room_here : has_room_at own j ≡ true
      room_here = rw (one_server i inside) (roomy i inside left)

      -- what is left of each class is what is still asked
      classes_after : (m : ℕ) → m < length own.plan.classes
          → left_from new.cells (first_cell own.plan.classes m) (length (class_at own.plan m).servers)
          ≡ asked_at own.service own.plan m entries + class_slack m
      classes_after m l = elim (cases_eq k m) [
        | inl same ↦
            let less = left_less own.cells first (length servers) i (omega (arith, inside, long)) there left in
            let bound = is.classes k found.0 in
            let split = asked_split k in
            let here : left_from new.cells first (length servers)
            ≡ asked_at own.service own.plan k entries + class_slack k =
            omega (arith, less, bound, split, asked_one) in
            subst
            (λ (c : ℕ). left_from new.cells (first_cell own.plan.classes c) (length (class_at own.plan c).servers)
            ≡ asked_at own.service own.plan c entries + class_slack c) same here
        | inr other ↦
            let kept =
            left_kept own.cells (first_cell own.plan.classes m) (length (class_at own.plan m).servers) n
            (one_given (cell_at own.cells n))
            (λ c low together.
            cells_apart own.plan.classes is.many k m i c other found.0 l (omega (arith, inside, long)) low together) in
            let none : one_if (is_number m class) ≡ 0 = rw (of_class, ne_eqb k m other) refl in
            omega (arith, kept, is.classes m l, asked_split m, none)
      ]

      -- the rest has as much as it asks for
      ready_class : IsReady new entries slack host_slack class_slack
      ready_class = record {
        placed = All-tail (λ e. is_placed own.service own.plan e ≡ true) entry entries is.placed;
        many = is.many;
        inside = λ m l. omega (arith, is.inside m l, length-set own.cells n (one_given (cell_at own.cells n)));
        servers = λ m c l low. server_stays own.cells n (first_cell own.plan.classes m + c) ∙ is.servers m c l low;
        classes = classes_after;
        all_cells = length-set own.cells n (one_given (cell_at own.cells n)) ∙ is.all_cells;
        rooms = λ s.
            omega (
              arith,
              is.rooms s,
              alone_split (λ v. v == s),
              not_alone (λ v. v == s) least several,
              server_takes own j s room_here,
              given_left (λ v. v == s) own.cells n there left,
              ap (λ v. one_if (v == s)) (one_server i inside),
            );
        host_rooms = λ h.
            omega (
              arith,
              is.host_rooms h,
              alone_split (λ v. is_on (host_at own.service v) h),
              not_alone (λ v. is_on (host_at own.service v) h) least several,
              host_takes own j h room_here,
              given_left (λ v. is_on (host_at own.service v) h) own.cells n there left,
              ap (λ v. one_if (is_on (host_at own.service v) h)) (one_server i inside),
            );
      }

  -- ---- one query

  -- the query is assigned, and the rest can be
  abbrev Goes : Type 0
  Goes = (is_assigned (answer_by own entry) ≡ true) × IsReady (left_by own entry) entries slack host_slack class_slack

  -- by what it is answered by
  goes_by : (by : Choice) → choice_for own entry ≡ by → is_assigned (answer_of by) ≡ true
      → IsReady (left_with own by) entries slack host_slack class_slack → Goes
  goes_by by e so ready = (
    ap (λ (c : Choice). is_assigned (answer_of c)) e ∙ so,
    subst (λ (c : Choice). IsReady (left_with own c) entries slack host_slack class_slack) (sym e) ready,
  )

  -- a query with several least arcs
  goes_class : 2 ≤ length least → is_some class ≡ true → Goes
  goes_class several some =
      let k = some_of class some in
      let place = place_found k.0 several k.1 (fullest own (places_of own k.0 least)) refl in
      let number = first_cell own.plan.classes k.0 in
      let i = place.2.0 in
      let same : place.0 ≡ place_at own.cells number least i = place.2.2 in
      let can : can_give own (place_at own.cells number least i) ≡ true = rw same at place.3 in
      let parts =
      and_parts (nat_lt 0 (cell_at own.cells (number + i)).left) (has_room_at own (get_or least i no_arc).server) can in
      let left = ltb-true 0 (cell_at own.cells (number + i)).left parts.0 in
      let chosen : choice_for own entry ≡ OfClass (number + i) (get_or least i no_arc) =
      chosen_class k.0 several k.1 place.0 place.1
      ∙ ap (λ (p : Place). OfClass p.number p.arc) same in
      goes_by (OfClass (number + i) (get_or least i no_arc)) chosen refl
      (ready_class k.0 several k.1 i place.2.1 left)

  -- a query with any least arcs
  goes_so : (list : List Arc) → least ≡ list → has_place list class ≡ true → Goes
  goes_so [] e placed = absurd (true≢false (sym placed))
  goes_so (arc ∷ []) e placed = goes_by (Free arc) (chosen_alone arc e) refl (ready_alone arc e)
  goes_so (arc ∷ other ∷ more) e placed =
      goes_class (subst (λ (list : List Arc). 2 ≤ length list) (sym e) (omega arith)) placed

  -- so each query is assigned
  pub goes : Goes
  goes = goes_so least refl (All-head (λ e. is_placed own.service own.plan e ≡ true) entry entries is.placed)

-- ---- all queries

-- a property of the first and of the others
all_cons : {A : Type 0} (P : A → Type 0) (x : A) (xs : List A) → P x → All P xs → All P (x ∷ xs)
all_cons P x xs here all zero d l = here
all_cons P x xs here all (suc k) d l = all k d (omega arith)

-- one query after another
all_go : (own : Held) (entries : List Entry) (slack host_slack class_slack : ℕ → ℕ) → IsReady own entries slack
    host_slack class_slack
    → All (λ answer. is_assigned answer ≡ true) (answers_to own entries)
    × IsReady (left_after own entries) [] slack host_slack class_slack
all_go own [] slack host_slack class_slack is = ((λ k d l. absurd (omega arith)), is)
all_go own (entry ∷ entries) slack host_slack class_slack is =
    let one = goes own entry entries slack host_slack class_slack is in
    let more = all_go (left_by own entry) entries slack host_slack class_slack one.1 in (
      all_cons (λ answer. is_assigned answer ≡ true) (answer_by own entry) (answers_to (left_by own entry) entries)
          one.0
          more.0,
      more.1,
    )

-- ---- the end

-- nothing, whether it counts or not
either : (t : Bool) (n : ℕ) → n ≡ 0 → (if t then n else 0) ≡ 0
either true n e = e
either false n e = refl

-- cells with nothing left have nothing anywhere
nothing_where : (test : ℕ → Bool) (cells : List Cell) → All (λ (cell : Cell). cell.left ≡ 0) cells
    → left_where test cells ≡ 0
nothing_where test [] all = refl
nothing_where test (cell ∷ cells) all =
    let none = All-head (λ (cell : Cell). cell.left ≡ 0) cell cells all in
    let here : (if test cell.server then cell.left else 0) ≡ 0 = either (test cell.server) cell.left none in
    let more = nothing_where test cells (All-tail (λ (cell : Cell). cell.left ≡ 0) cell cells all) in
    omega (arith, sum_by-cons (λ (cell : Cell). if test cell.server then cell.left else 0) cell cells, here, more)

-- the plan stays
pub plan_with : (own : Held) (by : Choice) → (left_with own by).plan ≡ own.plan
plan_with own (choice.OfClass n arc) = refl
plan_with own (choice.Free arc) = refl
plan_with own (choice.Diverted arc) = refl
plan_with own choice.Full = refl
plan_with own choice.Unknown = refl

-- whatever is asked
pub plan_stays : (own : Held) (entries : List Entry) → (left_after own entries).plan ≡ own.plan
plan_stays own [] = refl
plan_stays own (entry ∷ entries) = plan_stays (left_by own entry) entries ∙ plan_with own (choice_for own entry)

-- no term of a sum of nothing is more
no_term : (cells : List Cell) (first many i : ℕ) → i < many → left_from cells first many ≡ 0
    → (cell_at cells (first + i)).left ≡ 0
no_term cells first zero i l none = absurd (omega arith)
no_term cells first (suc many) i l none = elim (cases_eq i many) [
  | inl last ↦ rw last (omega (arith, none))
  | inr before ↦ no_term cells first many i (omega (arith, l, before)) (omega (arith, none))
]

-- each cell is one of a class
class_of_cell : (classes : List Class) (n upto : ℕ) → upto ≤ length classes → n < first_cell classes upto
    → (k : ℕ) × (i : ℕ) × (k < upto) × (i < length (sends (get_or classes k no_class)))
    × (n ≡ first_cell classes k + i)
class_of_cell classes n zero room inside = absurd (omega arith)
class_of_cell classes n (suc upto) room inside = elim (cases_lt n (first_cell classes upto)) [
  | inl before ↦
      let more = class_of_cell classes n upto (omega arith) before in
      (more.0, more.1, omega (arith, more.2), more.3, more.4)
  | inr here ↦
      let next =
      next_cell classes upto no_class (first_cell classes upto) (length (sends (get_or classes upto no_class)))
      (omega arith) refl (sends_many (get_or classes upto no_class)) in
      let e : upto + 1 ≡ suc upto = omega arith in
      let step = rw e at next in (
        upto,
        n - first_cell classes upto,
        omega arith,
        omega (arith, step, inside, here),
        omega (arith, here),
      )
]

-- where nothing is left of any class, nothing is left of any cell
no_cells_left : (test : ℕ → Bool) (cells : List Cell) (classes : List Class)
    → ((k : ℕ) → k < length classes
    → left_from cells (first_cell classes k) (length (get_or classes k no_class).servers) ≡ 0)
    → ((k : ℕ) → k < length classes
    → length (sends (get_or classes k no_class)) ≡ length (get_or classes k no_class).servers)
    → length cells ≡ first_cell classes (length classes) → left_where test cells ≡ 0
no_cells_left test cells classes none many long =
    nothing_where test cells
    (λ n d l.
    let at = class_of_cell classes n (length classes) (omega arith) (omega (arith, l, long)) in
    let i : at.1 < length (get_or classes at.0 no_class).servers = omega (arith, at.3, many at.0 at.2) in
    let here = no_term cells (first_cell classes at.0) (length (get_or classes at.0 no_class).servers) at.1 i
    (none at.0 at.2) in
    let same : get_or cells n d ≡ cell_at cells (first_cell classes at.0 + at.1) =
    get_or_default cells n d no_cell l ∙ ap (cell_at cells) at.4 in
    ap (λ (cell : Cell). cell.left) same ∙ here)

-- ---- the beginning

-- the share of the only front is the whole
share_whole : (n : ℕ) → share 1 0 n ≡ n
share_whole n = let all = shares_add_up 1 n (omega arith) in omega (arith, all)

-- a pair at a place
zip_at : (xs ys : List ℕ) (i : ℕ) → i < length xs → i < length ys
    → get_or (zip xs ys) i (0, 0) ≡ (slice_index xs i, slice_index ys i)
zip_at [] ys i l m = absurd (omega arith)
zip_at (x ∷ xs) [] i l m = absurd (omega arith)
zip_at (x ∷ xs) (y ∷ ys) zero l m = refl
zip_at (x ∷ xs) (y ∷ ys) (suc i) l m = zip_at xs ys i (omega arith) (omega arith)

module _ (own : Held) (entries : List Entry) (fits_text : is_best own.plan ≡ true) (fits : Fits own.service own.plan)
    (begun : IsBegun own.service own.plan 1 0 own) (within : AreWithinPlan own.service own.plan entries) where
  abbrev classes : List Class
  classes = own.plan.classes

  -- the classes are within their orders
  given : (k : ℕ) → k < length classes → IsGiven (class_at own.plan k)
  given k l = All-from_recursion IsGiven classes (given_classes own.plan fits_text) k no_class l

  -- a class has an amount for each server
  sends_long : (k : ℕ) → k < length classes
      → length (sends (class_at own.plan k)) ≡ length (class_at own.plan k).servers
  sends_long k l = omega (arith, sends_many (class_at own.plan k), (given k l).amounts)

  -- the cell of a server of a class
  cell_start : (k i : ℕ) → k < length classes → i < length (class_at own.plan k).servers
      → cell_at own.cells (first_cell classes k + i)
      ≡ cell_of 1 0 (slice_index (class_at own.plan k).servers i, slice_index (class_at own.plan k).amounts i)
  cell_start k i l low =
      let class = class_at own.plan k in
      let make = cells_of 1 0 in
      let first : length (flat_map make (take k classes)) ≡ first_cell classes k = cells_many 1 0 (take k classes) in
      let long : i < length (make class) =
      omega (arith, length-map (sends class) (cell_of 1 0), sends_long k l, low) in
      let at : get_or (flat_map make classes) (length (flat_map make (take k classes)) + i) no_cell
      ≡ get_or (make class) i no_cell = get_or-flat_map make classes k i no_class no_cell l long in
      let one : get_or (make class) i no_cell ≡ cell_of 1 0 (get_or (sends class) i (0, 0)) =
      get_or-map (cell_of 1 0) (sends class) i (0, 0) no_cell (omega (arith, sends_long k l, low)) in
      let pair : get_or (sends class) i (0, 0) ≡ (slice_index class.servers i, slice_index class.amounts i) =
      zip_at class.servers class.amounts i low (omega (arith, low, (given k l).amounts)) in
      rw begun.cells (rw first at at ∙ one ∙ ap (cell_of 1 0) pair)

  -- what is left of a class at first are its amounts
  classes_start : (k : ℕ) → k < length classes
      → sum (class_at own.plan k).amounts
      ≡ left_from own.cells (first_cell classes k) (length (class_at own.plan k).servers)
  classes_start k l =
      let amounts = (class_at own.plan k).amounts in
      by_places (λ x. x) 0 amounts
      ∙ ap (λ n. sum_below n (λ i. slice_index amounts i)) (given k l).amounts
      ∙ sum_below_same (length (class_at own.plan k).servers) (λ i. slice_index amounts i)
      (λ i. (cell_at own.cells (first_cell classes k + i)).left)
      (λ i low. sym (ap (λ (cell : Cell). cell.left) (cell_start k i l low) ∙ share_whole (slice_index amounts i)))

  -- at first all amounts are held
  held_start : (test : ℕ → Bool) → left_where test own.cells ≡ sent_where whole test (all_sends classes)
  held_start test =
      let cells = ap (left_where test) begun.cells ∙ left_is 1 0 test classes in
      let all = shares_together 1 test (all_sends classes) (omega arith) in
      omega (arith, cells, all)

  abbrev slack : ℕ → ℕ
  slack j =
      capacity_at own.service j
      - (load_at own.service own.plan [] j + only_least_where own.service own.plan (λ i. i == j) entries)

  abbrev class_slack : ℕ → ℕ
  class_slack k = sum (class_at own.plan k).amounts - asked_at own.service own.plan k entries

  abbrev host_slack : ℕ → ℕ
  host_slack h =
      limit_at own.service h
      - (host_load_at own.service own.plan [] h
      + only_least_where own.service own.plan (λ i. is_on (host_at own.service i) h) entries)

  -- at a server
  held_server : (j : ℕ) → held_at own j ≡ load_at own.service own.plan [] j
  held_server j = held_start (λ k. k == j) ∙ sym (load_is own.service own.plan j)

  -- and at the servers of a host
  held_host : (h : ℕ) → host_held_at own h ≡ host_load_at own.service own.plan [] h
  held_host h =
      held_start (λ k. is_on (host_at own.service k) h)
      ∙ sym (host_load_is own.service own.plan h (sends_there (length own.service.servers) classes fits.there))

  -- the room of a server at first
  rooms_start : (j : ℕ) → room_at own j
      ≡ held_at own j + (only_least_where own.service own.plan (λ i. i == j) entries + slack j)
  rooms_start j = elim (cases_lt j (length own.service.servers)) [
    | inl inside ↦
        let free = capacity_at own.service j - load_at own.service own.plan [] j in
        omega (arith, begun.rooms j inside, share_whole free, within.servers j, held_server j)
    | inr past ↦
        let none = get_or_past own.rooms j 0 (omega (arith, past, begun.rooms_many)) in
        let long = length-map own.service.servers (λ (server : Server). server.capacity) in
        let no_capacity : capacity_at own.service j ≡ 0 =
        get_or_past (map (λ server. server.capacity) own.service.servers) j 0 (omega (arith, past, long)) in
        omega (arith, none, no_capacity, within.servers j, held_server j)
  ]

  -- and that of a host
  host_rooms_start : (h : ℕ) → host_room_at own h
      ≡ host_held_at own h
      + (only_least_where own.service own.plan (λ i. is_on (host_at own.service i) h) entries + host_slack h)
  host_rooms_start h = elim (cases_lt h (length own.service.hosts)) [
    | inl inside ↦
        let free = limit_at own.service h - host_load_at own.service own.plan [] h in
        omega (arith, begun.host_rooms h inside, share_whole free, within.hosts h, held_host h)
    | inr past ↦
        let none = get_or_past own.host_rooms h 0 (omega (arith, past, begun.host_rooms_many)) in
        let long = length-map own.service.hosts (λ (host : Host). host.limit) in
        let no_limit : limit_at own.service h ≡ 0 =
        get_or_past (map (λ (host : Host). host.limit) own.service.hosts) h 0 (omega (arith, past, long)) in
        omega (arith, none, no_limit, within.hosts h, held_host h)
  ]

  -- so the front has as much as is asked for
  ready_start : IsReady own entries slack host_slack class_slack
  ready_start = record {
    placed = within.placed;
    many = sends_long;
    inside = rw begun.cells (cells_enough 1 0 own.plan fits_text);
    servers = λ k i l low. ap (λ (cell : Cell). cell.server) (cell_start k i l low);
    classes = λ k l. omega (arith, within.classes k l, classes_start k l);
    all_cells = rw begun.cells (cells_many 1 0 classes) ∙ ap (λ list. length (flat_map sends list)) (sym (take_all
        (length classes) classes (omega arith)));
    rooms = rooms_start;
    host_rooms = host_rooms_start;
  }

  -- where each class is asked for its amounts nothing is left at the end
  nothing_left : ((k : ℕ) → k < length classes
      → asked_at own.service own.plan k entries ≡ sum (class_at own.plan k).amounts)
      → (end : Held) → end.plan ≡ own.plan → IsReady end [] slack host_slack class_slack → (test : ℕ → Bool)
      → left_where test end.cells ≡ 0
  nothing_left exact end same is test =
      no_cells_left test end.cells end.plan.classes
      (λ k l.
      let own_l : k < length classes = rw same at l in
      let no_slack : class_slack k ≡ 0 = omega (arith, exact k own_l) in
      omega (arith, is.classes k l, no_slack)) is.many is.all_cells

  -- and all of it is assigned
  served : All (λ answer. is_assigned answer ≡ true) (answers_to own entries)
      × ((j : ℕ) → count_at j (answers_to own entries)
      ≤ only_least_where own.service own.plan (λ i. i == j) entries + load_at own.service own.plan [] j)
      × (((k : ℕ) → k < length classes
      → asked_at own.service own.plan k entries ≡ sum (class_at own.plan k).amounts)
      → (j : ℕ) → count_at j (answers_to own entries)
      ≡ only_least_where own.service own.plan (λ i. i == j) entries + load_at own.service own.plan [] j)
  served =
      let all = all_go own entries slack host_slack class_slack ready_start in (
        all.0,
        λ j. omega (arith, takes_room own entries j, rooms_start j, all.1.rooms j, held_server j),
        λ exact j.
            let none = nothing_left exact (left_after own entries) (plan_stays own entries) all.1 (λ i. i == j) in
            omega (arith, takes_room own entries j, rooms_start j, all.1.rooms j, held_server j, none),
      )

-- the same of a front of the service and the plan
pub served_by_plan : IsServedByPlan
served_by_plan at plan own entries text fits begun within =
    let own_text : is_best own.plan ≡ true = rw begun.plan_is text in
    let own_fits : Fits own.service own.plan = rw (begun.service, begun.plan_is) fits in
    let own_begun : IsBegun own.service own.plan 1 0 own =
    record {
      service = refl;
      plan_is = refl;
      cells = rw (← begun.plan_is) at begun.cells;
      rooms_many = rw (← begun.service) at begun.rooms_many;
      rooms = rw (← begun.service, ← begun.plan_is) at begun.rooms;
      host_rooms_many = rw (← begun.service) at begun.host_rooms_many;
      host_rooms = rw (← begun.service, ← begun.plan_is) at begun.host_rooms;
    } in
    let own_within : AreWithinPlan own.service own.plan entries = rw (begun.service, begun.plan_is) within in
    rw (← begun.service, ← begun.plan_is) (served own entries own_text own_fits own_begun own_within)
