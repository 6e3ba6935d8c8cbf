use Rattle.std.proofs.Common.{◌≡◌, Some, arith}
use Rattle.std.specs.List.{slice_get}
use Rattle.hsp_dispatch.specs.Standings.{place_of}
use Rattle.hsp_dispatch.proofs.FrontsHeld.{no_front_left, no_row_left, number_left}
use Rattle.hsp_dispatch.proofs.fronts.Fronts.left.Goals as goal

pub returns-then-front-self : goal.returns-then-front-self
returns-then-front-self c =
    rw (← c.self.view_is)
    (no_front_left c.self.inside.instance.now c.self.inside.fronts c.self.inside.plan c.self.inside.lefts c.args.front
    c.args.row c.args.site (omega (arith, c.if-front-self.true)))

pub returns-then-row-len : goal.returns-then-row-len
returns-then-row-len c =
    rw (← c.self.view_is)
    (no_row_left c.self.inside.instance.now c.self.inside.fronts c.self.inside.plan c.self.inside.lefts c.args.front
    (omega (arith, c.if-front-self.false)) c.args.row c.args.site
    (omega (arith, c.if-row-len.true, c.len.ensures)))

pub returns : goal.returns
returns c =
    let place : c.place.result ≡ place_of c.self.inside.fronts c.args.front c.args.row =
    rw (← c.self.view_is) at c.place.ensures in
    let left : slice_get c.self.inside.lefts (place_of c.self.inside.fronts c.args.front c.args.row)
    ≡ Some c.get-left.result = rw place at c.get-left.ensures in
    rw (← c.self.view_is, c.left.ensures)
    (number_left c.self.inside.instance.now c.self.inside.fronts c.self.inside.plan c.self.inside.lefts c.args.front
    (omega (arith, c.if-front-self.false)) c.args.row _ c.args.site left)
