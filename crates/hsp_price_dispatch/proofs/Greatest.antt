-- The place that is found has the greatest part left.
use Rattle.std.proofs.Common.{◌≡◌, ◌<◌, ◌≤◌, ◌*◌, ◌+◌, ◌∙◌, ℕ, Bool, true, false, List, [], ◌∷◌, All, None, Option}
use Rattle.std.proofs.Common.{Some, arith, drop, if◌then◌else◌, inl, inr, length, nat_lt, refl, subst, sym}
use Rattle.std.specs.List.{AllByRecursion, Contains}
use Rattle.std.proofs.Math.Nat.{le_of_mul-le-mul_right, mul-le-mul_right}
use Rattle.std.proofs.lemmas.Bool.{and_parts, cases_lt, lt-ltb, ltb-true, true≢false}
use Rattle.std.proofs.lemmas.List.{get_or_past}
use Rattle.std.proofs.lemmas.List.Elements.{All-contains_itself, All-drop, All-from_recursion, All-map, All-set}
use Rattle.std.proofs.lemmas.List.Elements.{recursion_from_All}
use Rattle.hsp_instance.specs.declared.arc.Arc.{Arc}
use Rattle.hsp_prices.specs.Rows.{Service}
use Rattle.hsp_price_text.specs.Claim.{Best}
use Rattle.hsp_prices.specs.Least.{arcs_of, least_of}
use Rattle.hsp_log.specs.Entries.{Entry}
use Rattle.hsp_price_dispatch.specs.Choosing.{can_give, choice_for, class_number, first_cell, fuller, fullest}
use Rattle.hsp_price_dispatch.specs.Choosing.{is_fuller, left_by, left_with, places_from, places_of, row_of}
use Rattle.hsp_price_dispatch.specs.Holding.{Held, cell_at, has_room, no_cell, one_given}
use Rattle.hsp_price_dispatch.specs.Laws.{AnswersByTheGreatestPart, GivesTheGreatestPart, HasGreatestPart, left_after}
use Rattle.hsp_price_dispatch.specs.Laws.{place_numbered}
use Rattle.hsp_price_dispatch.specs.Starting.{IsBegun, cell_of}
use Rattle.hsp_price_dispatch.specs.declared.answer.Choice.{Choice}
use Rattle.hsp_price_dispatch.specs.declared.answer.Choice.TheVariants.{OfClass, Free, Diverted, Full, Unknown}
use Rattle.hsp_price_dispatch.specs.declared.cells.Cell.{Cell}
use Rattle.hsp_price_dispatch.specs.declared.choosing.Place.{Place}
use Rattle.hsp_price_dispatch.proofs.Choices.{class_given, of_class}
use Rattle.hsp_price_dispatch.proofs.Chosen.{IsPlaced, OnPlace, all_placed, on_fullest}
use Rattle.hsp_price_dispatch.proofs.RoomTaken.{AnyArc}
use Rattle.hsp_price_dispatch.proofs.Sums.{all_sends, cells_are}

-- of three parts the first is no greater than the third where it is no greater than the second, and that than the third
part_trans : (ql qs ll ls pl ps : ℕ) → 0 < ls → ql * ls ≤ ll * qs → ll * ps ≤ pl * ls → ql * ps ≤ pl * qs
part_trans ql qs ll ls pl ps some a b =
    let x : (ql * ls) * ps ≤ (ll * qs) * ps = mul-le-mul_right ps a in
    let y : (ll * ps) * qs ≤ (pl * ls) * qs = mul-le-mul_right qs b in
    let z : (ql * ps) * ls ≤ (pl * qs) * ls = omega (arith, x, y) in
    le_of_mul-le-mul_right z some

-- a test that fails
not_below : (a b : ℕ) → nat_lt a b ≡ false → b ≤ a
not_below a b e = elim (cases_lt a b) [
  | inl less ↦ absurd (true≢false (sym (lt-ltb a b less) ∙ e))
  | inr low ↦ low
]

-- no more is left of a place's cell than its share
abbrev IsLow : Place → Type 0
IsLow place = place.cell.left ≤ place.cell.share

module _ (own : Held) where
  -- no greater part is left of another that can give
  abbrev IsNotAbove : Place → Place → Type 0
  IsNotAbove place other =
      can_give own other ≡ true → other.cell.left * place.cell.share ≤ place.cell.left * other.cell.share

  -- none can give where none is found
  pub none_can : (t : Bool) (place : Place) (o : Option Place) → can_give own place ≡ t
      → (if t then Some (fuller place o) else o) ≡ None → (can_give own place ≡ false) × (o ≡ None)
  none_can true place o e none = absurd (cc (none))
  none_can false place o e none = (e, none)

  -- where none is found none is above any
  above_none : (p : Place) (places : List Place) → fullest own places ≡ None
      → AllByRecursion (IsNotAbove p) places
  above_none p [] none = tt
  above_none p (place ∷ places) none =
      let parts = none_can (can_give own place) place (fullest own places) refl none in
      ((λ can. absurd (true≢false (sym can ∙ parts.0))), above_none p places parts.1)

  -- what is not above one is not above a greater one
  all_trans : (y x : Place) (places : List Place) → 0 < y.cell.share
      → y.cell.left * x.cell.share ≤ x.cell.left * y.cell.share → AllByRecursion (IsNotAbove y) places
      → AllByRecursion (IsNotAbove x) places
  all_trans y x [] some low all = tt
  all_trans y x (q ∷ places) some low all = (
    λ can.
        part_trans q.cell.left q.cell.share y.cell.left y.cell.share x.cell.left x.cell.share some (all.0 can) low,
    all_trans y x places some low all.1,
  )

  -- none is above the fuller of two
  of_two : (t : Bool) (x y p : Place) (places : List Place) → is_fuller y.cell x.cell ≡ t
      → (if t then y else x) ≡ p → 0 < y.cell.share → AllByRecursion (IsNotAbove y) places
      → AllByRecursion (IsNotAbove p) (x ∷ places)
  of_two true x y p places e is some all =
      let less = ltb-true (x.cell.left * y.cell.share) (y.cell.left * x.cell.share) e in
      subst (λ (own_p : Place). AllByRecursion (IsNotAbove own_p) (x ∷ places)) is ((λ can. omega (arith, less)), all)
  of_two false x y p places e is some all =
      let low = not_below (x.cell.left * y.cell.share) (y.cell.left * x.cell.share) e in
      subst (λ (own_p : Place). AllByRecursion (IsNotAbove own_p) (x ∷ places)) is
      ((λ can. omega arith), all_trans y x places some low all)

  -- one place more
  one_more : (t : Bool) (o : Option Place) (x p : Place) (places : List Place) → can_give own x ≡ t
      → fullest own places ≡ o → OnPlace own IsLow o
      → ((y : Place) → fullest own places ≡ Some y → AllByRecursion (IsNotAbove y) places)
      → (if t then Some (fuller x o) else o) ≡ Some p → AllByRecursion (IsNotAbove p) (x ∷ places)
  one_more false o x p places e found low before is =
      ((λ can. absurd (true≢false (sym can ∙ e))), before p (found ∙ is))
  one_more true None x p places e found low before is =
      let same : x ≡ p = cc (is) in
      subst (λ (own_p : Place). AllByRecursion (IsNotAbove own_p) (x ∷ places)) same
      ((λ can. omega arith), above_none x places found)
  one_more true (Some y) x p places e found low before is =
      let same : fuller x (Some y) ≡ p = cc (is) in
      let parts = and_parts (nat_lt 0 y.cell.left) (has_room own y.arc) low.1 in
      let left = ltb-true 0 y.cell.left parts.0 in
      of_two (is_fuller y.cell x.cell) x y p places refl same (omega (arith, left, low.0)) (before y found)

  -- so none is above the one that is found
  none_above : (places : List Place) (p : Place) → AllByRecursion IsLow places → fullest own places ≡ Some p
      → AllByRecursion (IsNotAbove p) places
  none_above [] p low is = tt
  none_above (x ∷ places) p low is =
      one_more (can_give own x) (fullest own places) x p places refl refl (on_fullest own IsLow places low.1)
      (λ y found. none_above places y low.1 found) is

-- the greatest part is given
pub gives_the_greatest : GivesTheGreatestPart
gives_the_greatest own places place low found =
    All-from_recursion (IsNotAbove own place) places
    (none_above own places place (recursion_from_All IsLow places low) found)

-- ---- what is left of amounts

-- no more is left of a cell than its share
abbrev IsLowCell : Cell → Type 0
IsLowCell cell = cell.left ≤ cell.share

abbrev AreLow : Held → Type 0
AreLow own = All IsLowCell own.cells

-- so it is at the beginning
begun_low : (at : Service) (plan : Best) (fronts front : ℕ) (own : Held) → IsBegun at plan fronts front own
    → AreLow own
begun_low at plan fronts front own begun =
    subst (All IsLowCell) (sym (begun.cells ∙ cells_are fronts front plan.classes))
    (All-map IsLowCell (cell_of fronts front) (all_sends plan.classes) (λ k d l. omega arith))

-- and it is so of the cell with a number
low_at : (cells : List Cell) (n : ℕ) → All IsLowCell cells → IsLowCell (cell_at cells n)
low_at cells n low = elim (cases_lt n (length cells)) [
  | inl inside ↦ low n no_cell inside
  | inr past ↦ subst IsLowCell (sym (get_or_past cells n no_cell past)) (omega arith)
]

-- an answer keeps it
choice_low : (own : Held) (by : Choice) → AreLow own → AreLow (left_with own by)
choice_low own (OfClass n arc) low =
    All-set IsLowCell own.cells n (one_given (cell_at own.cells n)) (omega (arith, low_at own.cells n low)) low
choice_low own (Free arc) low = low
choice_low own (Diverted arc) low = low
choice_low own Full low = low
choice_low own Unknown low = low

-- and so do answers one after another
after_low : (own : Held) (entries : List Entry) → AreLow own → AreLow (left_after own entries)
after_low own [] low = low
after_low own (entry ∷ entries) low =
    after_low (left_by own entry) entries (choice_low own (choice_for own entry) low)

-- so it is of places
places_low : (n : ℕ) (arcs : List Arc) (cells : List Cell) → AllByRecursion IsLowCell cells
    → AllByRecursion IsLow (places_from n arcs cells)
places_low n [] cells low = tt
places_low n (arc ∷ arcs) [] low = tt
places_low n (arc ∷ arcs) (cell ∷ cells) low = (low.0, places_low (n + 1) arcs cells low.1)

-- ---- an answer

-- a place is that of its arc and of the cell with its number
same_place : (own : Held) (place : Place) (n : ℕ) (arc : Arc) → OfClass place.number place.arc ≡ OfClass n arc
    → place.cell ≡ cell_at own.cells place.number → place ≡ place_numbered own n arc
same_place own place n arc e cell =
    let number : place.number ≡ n = cc (e) in
    let over : place.arc ≡ arc = cc (e) in
    rw (← number, ← over, ← cell) refl

-- a query that gets of an amount gets of the greatest part that is left
pub answers_by_the_greatest : AnswersByTheGreatestPart
answers_by_the_greatest at plan fronts front begun entries entry n arc is given =
    let own = left_after begun entries in
    let arcs = arcs_of own.service (row_of entry) in
    let least = least_of own.service own.plan (row_of entry) in
    let class = class_number own.plan entry.region least in
    let low = after_low begun entries (begun_low at plan fronts front begun is) in
    let found =
    of_class own least class (OfClass n arc) (class_given own entry.region arcs least n arc given) in
    let k = found.0 in
    let first = first_cell own.plan.classes k in
    let places = places_of own k least in
    let place = found.2 in
    let all : All IsLow places =
    All-from_recursion IsLow places
    (places_low first least (drop first own.cells)
    (recursion_from_All IsLowCell (drop first own.cells) (All-drop IsLowCell first own.cells low))) in
    let among : OnPlace own (Contains places) (Some place) =
    subst (OnPlace own (Contains places)) found.3
    (on_fullest own (Contains places) places
    (recursion_from_All (Contains places) places (All-contains_itself places))) in
    let placed : OnPlace own (IsPlaced AnyArc own.cells) (Some place) =
    subst (OnPlace own (IsPlaced AnyArc own.cells)) found.3
    (on_fullest own (IsPlaced AnyArc own.cells) places
    (all_placed AnyArc own.cells first least (λ k d l. tt))) in (
      k,
      found.1,
      subst (HasGreatestPart own places) (same_place own place n arc found.4 placed.0.2)
          (record { among = among.0; greatest = gives_the_greatest own places place all found.3 }),
    )
