use Rattle.std.proofs.Common.{◌≡◌, ◌<◌, ◌∙◌, length, Some, arith}
use Rattle.std.specs.List.{slice_get}
use Rattle.std.proofs.lemmas.List.{length-set}
use Rattle.hsp_dispatch.specs.Standings.{place_of}
use Rattle.hsp_dispatch.proofs.FrontsHeld.{long, number_answers, number_held, number_taken}
use Rattle.hsp_dispatch.proofs.Standings.{place_within}
use Rattle.hsp_dispatch.proofs.fronts.Fronts.take.Goals as goal
use Rattle.hsp_dispatch.proofs.fronts.Fronts.take.Goals.{After-place-place, After-take-left}

front_inside : (c : After-place-place) → c.args.front < c.self.inside.fronts
front_inside c = rw (← c.self.view_is) at c.requires.front

row_inside : (c : After-place-place) → c.args.row < length c.self.inside.plan
row_inside c =
    let row : c.args.row < length c.self.inside.instance.now.rows = rw (← c.self.view_is) at c.requires.row in
    let front = front_inside c in
    omega (
      arith,
      row,
      (c.self.invariant.0.each c.args.front front).one_a_row,
      long c.self.inside.instance.now c.self.inside.fronts c.self.inside.plan c.self.inside.lefts c.args.front front,
    )

pub take-left-requires : goal.take-left-requires
take-left-requires c =
    let here = (goal.at.take-left-requires c).After-place-place in
    let place : c.place-place.result ≡ place_of c.self.inside.fronts c.args.front c.args.row =
    rw (← c.self.view_is) at c.place-place.ensures in
    omega (
      arith,
      place,
      place_within c.self.inside.fronts c.args.front c.args.row (length c.self.inside.plan) (front_inside here)
          (row_inside here),
      c.self.invariant.1,
    )

pub server-requires-clause-row : goal.server-requires-clause-row
server-requires-clause-row c = row_inside (goal.at.server-requires-clause-row c).After-place-place

place_is : (c : After-take-left) → c.place-place.result ≡ place_of c.self.inside.fronts c.args.front c.args.row
place_is c = rw (← c.self.view_is) at c.place-place.ensures

-- the front's number for the row
left_is : (c : After-take-left)
    → slice_get c.self.inside.lefts (place_of c.self.inside.fronts c.args.front c.args.row) ≡ Some c.take-left.result
left_is c = rw (place_is c) at c.take-left.ensures.count

inside : (c : After-take-left) → c.args.front < c.self.inside.fronts
inside c = rw (← c.self.view_is) at c.requires.front

pub invariant_of-self : goal.invariant_of-self
invariant_of-self c =
    let here = (goal.at.invariant_of-self c).After-take-left in
    rw (c.take-left.ensures.rest, place_is here) (
      number_held c.self.inside.instance.now c.self.inside.fronts c.self.inside.plan c.self.inside.lefts c.args.front
          c.args.row _ c.self.invariant.0 (inside here) (left_is here),
      length-set c.self.inside.lefts _ _ ∙ c.self.invariant.1,
    )

pub returns-clause-taken : goal.returns-clause-taken
returns-clause-taken c =
    let here = (goal.at.returns-clause-taken c).After-take-left in
    rw (← c.self.view_is)
    (number_answers c.self.inside.instance.now c.self.inside.fronts c.self.inside.plan c.self.inside.lefts c.args.front
    c.args.row _ c.self.invariant.0 (inside here) (left_is here) _ c.server.ensures).0

pub returns-clause-there : goal.returns-clause-there
returns-clause-there c =
    let here = (goal.at.returns-clause-there c).After-take-left in
    rw (← c.self.view_is)
    (number_answers c.self.inside.instance.now c.self.inside.fronts c.self.inside.plan c.self.inside.lefts c.args.front
    c.args.row _ c.self.invariant.0 (inside here) (left_is here) _ c.server.ensures).1

pub returns-clause-rest : goal.returns-clause-rest
returns-clause-rest c =
    let here = (goal.at.returns-clause-rest c).After-take-left in
    rw (← c.self.view_is, c.take-left.ensures.rest, place_is here)
    (number_taken c.self.inside.instance.now c.self.inside.fronts c.self.inside.plan c.self.inside.lefts c.args.front
    c.args.row _ c.self.invariant.0 (inside here) (left_is here))
