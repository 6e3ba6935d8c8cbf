-- By which way a query comes to its answer.
use Rattle.std.proofs.Common.{◌≡◌, ◌⊎◌, ℕ, Bool, List, [], ◌∷◌, Option, None, Some, ap, arith, filter}
use Rattle.std.proofs.Common.{inl, inr, refl, sym}
use Rattle.std.specs.List.{Contains}
use Rattle.hsp_instance.specs.Building.{or_else}
use Rattle.hsp_instance.specs.declared.arc.Arc.{Arc}
use Rattle.hsp_price_dispatch.specs.Choosing.{answer_of, assigned, at_first, by_class, by_place, by_room}
use Rattle.hsp_price_dispatch.specs.Choosing.{choice_among, class_number, diverted, elsewhere, fullest, or_full}
use Rattle.hsp_price_dispatch.specs.Choosing.{places_of}
use Rattle.hsp_price_dispatch.specs.Holding.{Held, has_room, is_free}
use Rattle.hsp_price_dispatch.specs.declared.answer.Choice.{Choice}
use Rattle.hsp_price_dispatch.specs.declared.answer.Choice.TheVariants as choice
use Rattle.hsp_price_dispatch.specs.declared.answer.PriceAnswer.TheVariants as answer
use Rattle.hsp_price_dispatch.specs.declared.choosing.Place.{Place}

-- ---- one of two

-- what is there is the first, or the second where the first is not
pub one_of_two : (a b : Option Choice) (by : Choice) → or_else a b ≡ Some by
    → (a ≡ Some by) ⊎ ((a ≡ None) × (b ≡ Some by))
one_of_two None b by e = inr (refl, e)
one_of_two (Some a) b by e = inl e

-- where neither is there the first is not
pub first_absent : (a b : Option Choice) → or_else a b ≡ None → a ≡ None
first_absent None b e = refl
first_absent (Some by) b e = absurd (cc (e))

-- and the second is not
pub second_absent : (a b : Option Choice) → or_else a b ≡ None → b ≡ None
second_absent None b e = e
second_absent (Some by) b e = absurd (cc (e))

-- a choice is there, or it is Full
pub there_or_full : (o : Option Choice) (by : Choice) → or_full o ≡ by → (o ≡ Some by) ⊎ (by ≡ choice.Full)
there_or_full None by e = inr (sym e)
there_or_full (Some own) by e = inl (ap Some e)

-- ---- the first arc

-- it is one of the arcs
pub first_among : (by : Arc → Choice) (arcs : List Arc) (given : Choice) → at_first by arcs ≡ Some given
    → (arc : Arc) × (by arc ≡ given) × Contains arcs arc
first_among by [] given e = absurd (cc (e))
first_among by (arc ∷ arcs) given e = (arc, cc (e), (0, omega arith, refl))

-- ---- a place

-- a choice by a place is of its cell, over its arc
pub of_place : (o : Option Place) (by : Choice) → by_place o ≡ Some by
    → (place : Place) × (o ≡ Some place) × (choice.OfClass place.number place.arc ≡ by)
of_place None by e = absurd (cc (e))
of_place (Some place) by e = (place, refl, cc (e))

-- where there is no choice there is no place
pub place_absent : (o : Option Place) → by_place o ≡ None → o ≡ None
place_absent None e = refl
place_absent (Some place) e = absurd (cc (e))

module _ (own : Held) where
  -- a choice by a class is of one of its places
  pub of_class : (least : List Arc) (o : Option ℕ) (by : Choice) → by_class own least o ≡ Some by
      → (k : ℕ) × (o ≡ Some k) × (place : Place) × (fullest own (places_of own k least) ≡ Some place)
      × (choice.OfClass place.number place.arc ≡ by)
  of_class least None by e = absurd (cc (e))
  of_class least (Some k) by e =
      let place = of_place (fullest own (places_of own k least)) by e in (k, refl, place.0, place.1, place.2)

  -- where there is no choice by a class none of its places can give
  pub class_absent : (least : List Arc) (o : Option ℕ) → by_class own least o ≡ None → (k : ℕ) → o ≡ Some k
      → fullest own (places_of own k least) ≡ None
  class_absent least None none k e = absurd (cc (e))
  class_absent least (Some j) none k e =
      let same : j ≡ k = cc (e) in
      place_absent (fullest own (places_of own k least)) (rw same at none)

  -- ---- all ways

  -- what is answered neither by Full nor by Unknown is there
  pub choice_there : (region : List ℕ) (arcs least : List Arc) (by : Choice)
      → choice_among own region arcs least ≡ by → (by ≡ choice.Full → ⊥) → (by ≡ choice.Unknown → ⊥)
      → or_else (assigned own region least) (elsewhere own arcs) ≡ Some by
  choice_there region [] least by e full unknown = absurd (unknown (sym e))
  choice_there region (arc ∷ arcs) least by e full unknown =
      elim (there_or_full (or_else (assigned own region least) (elsewhere own (arc ∷ arcs))) by e) [
        | inl there ↦ there
        | inr none ↦ absurd (full none)
      ]

  -- a choice of the least of some arcs diverts
  of_diverted : (test : Arc → Bool) (arcs : List Arc) (by : Choice) → diverted own test arcs ≡ Some by
      → (arc : Arc) × (choice.Diverted arc ≡ by)
  of_diverted test arcs by e = let first = first_among choice.Diverted _ by e in (first.0, first.1)

  -- and so it does elsewhere
  of_elsewhere : (arcs : List Arc) (by : Choice) → elsewhere own arcs ≡ Some by
      → (arc : Arc) × (choice.Diverted arc ≡ by)
  of_elsewhere arcs by e =
      elim (one_of_two (diverted own (is_free own) arcs) (diverted own (has_room own) arcs) by e) [
        | inl free ↦ of_diverted (is_free own) arcs by free
        | inr roomy ↦ of_diverted (has_room own) arcs by roomy.1
      ]

  -- a choice over a least arc is by a class or by free room
  of_assigned : (region : List ℕ) (least : List Arc) (by : Choice) → assigned own region least ≡ Some by
      → (by_class own least (class_number own.plan region least) ≡ Some by)
      ⊎ ((arc : Arc) × (choice.Free arc ≡ by))
  of_assigned region least by e =
      let class = class_number own.plan region least in
      elim (one_of_two (by_class own least class) (by_room own least) by e) [
        | inl given ↦ inl given
        | inr room ↦
            let first = first_among choice.Free (filter (is_free own) least) by room.1 in inr (first.0, first.1)
      ]

  -- a choice of a class is one by a class
  pub class_given : (region : List ℕ) (arcs least : List Arc) (n : ℕ) (arc : Arc)
      → choice_among own region arcs least ≡ choice.OfClass n arc
      → by_class own least (class_number own.plan region least) ≡ Some (choice.OfClass n arc)
  class_given region arcs least n arc e =
      let there =
      choice_there region arcs least (choice.OfClass n arc) e (λ q. absurd (cc (q))) (λ q. absurd (cc (q))) in
      elim (one_of_two (assigned own region least) (elsewhere own arcs) (choice.OfClass n arc) there) [
        | inl here ↦ elim (of_assigned region least (choice.OfClass n arc) here) [
          | inl given ↦ given
          | inr room ↦ absurd (cc (room.1))
        ]
        | inr other ↦ let diverts = of_elsewhere arcs (choice.OfClass n arc) other.1 in absurd (cc (diverts.1))
      ]

  -- a choice that diverts is one elsewhere, where there is none over a least arc
  pub diverts_elsewhere : (region : List ℕ) (arcs least : List Arc) (arc : Arc)
      → choice_among own region arcs least ≡ choice.Diverted arc
      → (assigned own region least ≡ None) × (elsewhere own arcs ≡ Some (choice.Diverted arc))
  diverts_elsewhere region arcs least arc e =
      let class = class_number own.plan region least in
      let there =
      choice_there region arcs least (choice.Diverted arc) e (λ q. absurd (cc (q))) (λ q. absurd (cc (q))) in
      elim (one_of_two (assigned own region least) (elsewhere own arcs) (choice.Diverted arc) there) [
        | inl here ↦ elim (of_assigned region least (choice.Diverted arc) here) [
          | inl given ↦ let place = of_class least class (choice.Diverted arc) given in absurd (cc (place.4))
          | inr room ↦ absurd (cc (room.1))
        ]
        | inr other ↦ other
      ]

-- ---- the answer

-- only one choice over an arc is answered so
pub is_diverted : (by : Choice) (arc : Arc) → answer_of by ≡ answer.Diverted arc → by ≡ choice.Diverted arc
is_diverted (choice.OfClass n own) arc e = absurd (cc (e))
is_diverted (choice.Free own) arc e = absurd (cc (e))
is_diverted (choice.Diverted own) arc e = let same : own ≡ arc = cc (e) in ap choice.Diverted same
is_diverted choice.Full arc e = absurd (cc (e))
is_diverted choice.Unknown arc e = absurd (cc (e))

-- only one is answered by Unknown
pub is_unknown : (by : Choice) → answer_of by ≡ answer.Unknown → by ≡ choice.Unknown
is_unknown (choice.OfClass n arc) e = absurd (cc (e))
is_unknown (choice.Free arc) e = absurd (cc (e))
is_unknown (choice.Diverted arc) e = absurd (cc (e))
is_unknown choice.Full e = absurd (cc (e))
is_unknown choice.Unknown e = refl
