-- What is true of the arc that a query is answered by, and of its cell.
use Rattle.std.proofs.Common.{◌≡◌, ◌<◌, ◌+◌, ℕ, Bool, true, false, List, [], ◌∷◌, length, drop, filter}
use Rattle.std.proofs.Common.{All, Option, Some, None, inl, inr, refl, subst, arith, nat_lt, if◌then◌else◌}
use Rattle.std.specs.Prelude.{⊤}
use Rattle.std.specs.List.{AllByRecursion}
use Rattle.std.proofs.lemmas.Bool.{and_from, and_parts, cases_lt, lt-ltb, ltb-true}
use Rattle.std.proofs.lemmas.List.{drop_all, drop_more}
use Rattle.std.proofs.lemmas.List.Elements.{All-filter, All-head, All-tail, filter_passes}
use Rattle.hsp_instance.specs.Building.{or_else}
use Rattle.hsp_instance.specs.declared.arc.Arc.{Arc}
use Rattle.hsp_prices.specs.Least.{host_at, is_least, least_arcs, pay_over}
use Rattle.hsp_price_dispatch.specs.Choosing.{assigned, at_first, by_class, by_place, by_room, can_give, choice_among}
use Rattle.hsp_price_dispatch.specs.Choosing.{class_number, diverted, elsewhere, first_cell, fuller, fullest, is_fuller}
use Rattle.hsp_price_dispatch.specs.Choosing.{or_full, places_from, places_of}
use Rattle.hsp_price_dispatch.specs.Holding.{Held, cell_at, has_room, has_room_at, host_held_at, host_passes}
use Rattle.hsp_price_dispatch.specs.Holding.{host_room_at, is_free, is_free_at, held_at, no_cell, room_at}
use Rattle.hsp_price_dispatch.specs.declared.answer.Choice.{Choice}
use Rattle.hsp_price_dispatch.specs.declared.answer.Choice.TheVariants.{OfClass, Free, Diverted, Full, Unknown}
use Rattle.hsp_price_dispatch.specs.declared.cells.Cell.{Cell}
use Rattle.hsp_price_dispatch.specs.declared.choosing.Place.{Place}

-- ---- free room is room

-- a number above another is above 0
above_none : (a b : ℕ) → nat_lt a b ≡ true → nat_lt 0 b ≡ true
above_none a b e = let low : a < b = ltb-true a b e in lt-ltb 0 b (omega arith)

-- at a host, too
host_room : (own : Held) (o : Option ℕ)
    → host_passes o (λ h. nat_lt (host_held_at own h) (host_room_at own h)) ≡ true
    → host_passes o (λ h. nat_lt 0 (host_room_at own h)) ≡ true
host_room own None e = refl
host_room own (Some h) e = above_none (host_held_at own h) (host_room_at own h) e

-- where there is free room there is room
pub free_room : (own : Held) (j : ℕ) → is_free_at own j ≡ true → has_room_at own j ≡ true
free_room own j e =
    let host = host_at own.service j in
    let parts =
    and_parts (nat_lt (held_at own j) (room_at own j))
    (host_passes host (λ h. nat_lt (host_held_at own h) (host_room_at own h))) e in
    and_from (nat_lt 0 (room_at own j)) (host_passes host (λ h. nat_lt 0 (host_room_at own h)))
    (above_none (held_at own j) (room_at own j) parts.0) (host_room own host parts.1)

-- ---- places of a class

-- the arc has a property, and the cell stands at its number
abbrev pub IsPlaced : (Arc → Type 0) → List Cell → Place → Type 0
IsPlaced P cells place =
    P place.arc × (place.number < length cells) × (place.cell ≡ cell_at cells place.number)

-- so it is at each place
pub all_placed : (P : Arc → Type 0) (cells : List Cell) (n : ℕ) (arcs : List Arc) → All P arcs
    → AllByRecursion (IsPlaced P cells) (places_from n arcs (drop n cells))
all_placed P cells n [] all = tt
all_placed P cells n (arc ∷ arcs) all = elim (cases_lt n (length cells)) [
  | inl inside ↦
      let one : IsPlaced P cells (record { arc = arc; number = n; cell = cell_at cells n }) =
      (All-head P arc arcs all, inside, refl) in
      let more = all_placed P cells (n + 1) arcs (All-tail P arc arcs all) in
      rw (drop_more cells n no_cell inside) (one, more)
  | inr past ↦ rw (drop_all n cells past) tt
]

module _ (own : Held) (P : Place → Type 0) where
  -- what holds of each place holds of the one that is found, which can give
  abbrev pub OnPlace : Option Place → Type 0
  OnPlace None = ⊤
  OnPlace (Some place) = P place × (can_give own place ≡ true)

  -- what holds of two places holds of the one that is taken
  of_two : (t : Bool) (place later : Place) → P place × (can_give own place ≡ true)
      → P later × (can_give own later ≡ true)
      → P (if t then later else place) × (can_give own (if t then later else place) ≡ true)
  of_two true place later here there = there
  of_two false place later here there = here

  -- so it is with the fuller one
  of_fuller : (place : Place) (o : Option Place) → P place × (can_give own place ≡ true) → OnPlace o
      → P (fuller place o) × (can_give own (fuller place o) ≡ true)
  of_fuller place None here all = here
  of_fuller place (Some later) here all = of_two (is_fuller later.cell place.cell) place later here all

  -- and with one place more
  on_next : (t : Bool) (place : Place) (o : Option Place) → can_give own place ≡ t → P place → OnPlace o
      → OnPlace (if t then Some (fuller place o) else o)
  on_next true place o e here all = of_fuller place o (here, e) all
  on_next false place o e here all = all

  -- and with the one of all places that is found
  pub on_fullest : (places : List Place) → AllByRecursion P places → OnPlace (fullest own places)
  on_fullest [] all = tt
  on_fullest (place ∷ places) all =
      on_next (can_give own place) place (fullest own places) refl all.0 (on_fullest places all.1)

-- ---- the choice

module _ (own : Held) (P Q : Arc → Type 0) where
  -- a query goes over an arc with a property, where there is room, and something is left in its cell
  abbrev pub IsGoing : Choice → Type 0
  IsGoing (OfClass n arc) =
      P arc × (has_room own arc ≡ true) × (n < length own.cells) × (0 < (cell_at own.cells n).left)
  IsGoing (Free arc) = P arc × (has_room own arc ≡ true)
  IsGoing (Diverted arc) = Q arc × (has_room own arc ≡ true)
  IsGoing Full = ⊥
  IsGoing Unknown = ⊥

  -- if it goes anywhere
  abbrev pub IsGood : Choice → Type 0
  IsGood (OfClass n arc) =
      P arc × (has_room own arc ≡ true) × (n < length own.cells) × (0 < (cell_at own.cells n).left)
  IsGood (Free arc) = P arc × (has_room own arc ≡ true)
  IsGood (Diverted arc) = Q arc × (has_room own arc ≡ true)
  IsGood Full = ⊤
  IsGood Unknown = ⊤

  abbrev pub OnChoice : Option Choice → Type 0
  OnChoice None = ⊤
  OnChoice (Some choice) = IsGoing choice

  -- a query that goes somewhere is answered well
  good : (choice : Choice) → IsGoing choice → IsGood choice
  good (OfClass n arc) is = is
  good (Free arc) is = is
  good (Diverted arc) is = is
  good Full is = tt
  good Unknown is = tt

  -- and so it is where Full is answered otherwise
  good_or_full : (o : Option Choice) → OnChoice o → IsGood (or_full o)
  good_or_full None is = tt
  good_or_full (Some choice) is = good choice is

  -- what holds of two choices holds of the first that is there
  on_either : (a b : Option Choice) → OnChoice a → OnChoice b → OnChoice (or_else a b)
  on_either None b first second = second
  on_either (Some choice) b first second = first

  -- by a place
  on_place : (o : Option Place) → OnPlace own (IsPlaced P own.cells) o → OnChoice (by_place o)
  on_place None is = tt
  on_place (Some place) is =
      let parts = and_parts (nat_lt 0 place.cell.left) (has_room own place.arc) is.1 in
      let left : 0 < place.cell.left = ltb-true 0 place.cell.left parts.0 in
      (is.0.0, parts.1, is.0.1, subst (λ (cell : Cell). 0 < cell.left) is.0.2 left)

  -- by a class
  on_class : (least : List Arc) (o : Option ℕ) → All P least → OnChoice (by_class own least o)
  on_class least None all = tt
  on_class least (Some k) all =
      on_place (fullest own (places_of own k least))
      (on_fullest own (IsPlaced P own.cells) (places_of own k least)
      (all_placed P own.cells (first_cell own.plan.classes k) least all))

  -- over the first of arcs
  on_first : (by : Arc → Choice) (arcs : List Arc) → All (λ arc. IsGoing (by arc)) arcs → OnChoice (at_first by arcs)
  on_first by [] all = tt
  on_first by (arc ∷ arcs) all = All-head (λ arc. IsGoing (by arc)) arc arcs all

  -- by free room
  on_room : (least : List Arc) → All P least → OnChoice (by_room own least)
  on_room least all =
      on_first Free (filter (is_free own) least)
      (λ k d l. (
        All-filter (is_free own) P least all k d l,
        free_room own _ (filter_passes (is_free own) least k d l),
      ))

  -- by the least of the arcs that pass a test
  on_diverted : (test : Arc → Bool) (arcs : List Arc) → ((arc : Arc) → test arc ≡ true → has_room own arc ≡ true)
      → All Q arcs → OnChoice (diverted own test arcs)
  on_diverted test arcs roomy all =
      let pay = pay_over own.service own.plan in
      let kept = filter test arcs in
      on_first Diverted (least_arcs pay kept)
      (λ k d l. (
        All-filter (is_least pay kept) Q kept (All-filter test Q arcs all) k d l,
        roomy _
            (All-filter (is_least pay kept) (λ arc. test arc ≡ true) kept (filter_passes test arcs) k d l),
      ))

  -- over any arc
  on_elsewhere : (arcs : List Arc) → All Q arcs → OnChoice (elsewhere own arcs)
  on_elsewhere arcs all =
      on_either (diverted own (is_free own) arcs) (diverted own (has_room own) arcs)
      (on_diverted (is_free own) arcs (λ arc. free_room own arc.server) all)
      (on_diverted (has_room own) arcs (λ arc e. e) all)

  -- over a least arc
  on_assigned : (region : List ℕ) (least : List Arc) → All P least → OnChoice (assigned own region least)
  on_assigned region least all =
      on_either (by_class own least (class_number own.plan region least)) (by_room own least)
      (on_class least (class_number own.plan region least) all) (on_room least all)

  -- one of the least arcs, or one of the arcs
  pub on_any : (region : List ℕ) (arcs least : List Arc) → All Q arcs → All P least
      → OnChoice (or_else (assigned own region least) (elsewhere own arcs))
  on_any region arcs least all some =
      on_either (assigned own region least) (elsewhere own arcs) (on_assigned region least some)
      (on_elsewhere arcs all)

  -- so it is with every choice
  pub is_good : (region : List ℕ) (arcs least : List Arc) → All Q arcs → All P least
      → IsGood (choice_among own region arcs least)
  is_good region [] least all some = tt
  is_good region (arc ∷ arcs) least all some =
      good_or_full (or_else (assigned own region least) (elsewhere own (arc ∷ arcs)))
      (on_any region (arc ∷ arcs) least all some)
