use Rattle.std.proofs.Common.{◌≡◌, ◌∙◌, ◌<◌, [], Some, arith, length, refl, sym}
use Rattle.std.specs.List.{slice_get}
use Rattle.std.proofs.lemmas.List.{get_or_read}
use Rattle.std.proofs.lemmas.Option.{slice_get-get_or, slice_get_read}
use Rattle.std.proofs.lemmas.Slice.Zip.{AllZip-long}
use Rattle.hsp_dispatch.specs.Shares.{cells_at}
use Rattle.hsp_dispatch.specs.Standings.{IsSole, Names}
use Rattle.hsp_dispatch.proofs.Lists.{zip_at}
use Rattle.hsp_dispatch.proofs.Standings.{first_sole, none_left}
use Rattle.hsp_dispatch.proofs.plan_cells.PlanCells.server.Goals as goal
use Rattle.hsp_dispatch.proofs.plan_cells.PlanCells.server.Goals.{After-self}

pub returns-then-left-eq0 : goal.returns-then-left-eq0
returns-then-left-eq0 c =
    rw
    (none_left c.args.front.fronts c.args.front.number c.args.left (cells_at c.args.self.now c.args.row)
    (omega (arith, c.if-left-eq0.true))) refl

-- the row is there, and there is a number for it
inside : (c : After-self) → c.args.row < length c.self.inside.rows.items
inside c = rw (← c.self.view_is) at c.requires.row

named : (c : After-self) → c.args.row < length c.self.inside.soles.items
named c = omega (arith, inside c, AllZip-long Names c.self.inside.soles.items c.self.inside.rows.items c.self.invariant)

pub index-requires : goal.index-requires
index-requires c = omega (arith, named (goal.at.index-requires c).After-self, c.self.inside.soles.ok)

pub returns-in-Some : goal.returns-in-Some
returns-in-Some c =
    let here = (goal.at.returns-in-Some c).After-self in
    let rows = c.self.inside.rows.items in
    let soles = c.self.inside.soles.items in
    let own : slice_get soles c.args.row ≡ Some c.index.result.now =
    slice_get_read soles (length soles) c.args.row c.index.result.now refl (named here) c.index.ensures in
    let sole : IsSole c.in-Some.server (cells_at rows c.args.row) =
    rw (sym c.named.ensures ∙ c.in-Some.is) at
    (zip_at Names soles rows c.args.row c.index.result.now (cells_at rows c.args.row) c.self.invariant own
    (slice_get-get_or rows c.args.row [] (inside here))) in
    rw (← c.self.view_is)
    (sym
    (first_sole c.args.front.fronts c.args.front.number c.args.left c.in-Some.server (cells_at rows c.args.row) sole
    (λ none. absurd (omega (arith, none, c.if-left-eq0.false)))))

pub returns : goal.returns
returns c =
    let rows = c.self.inside.rows.items in
    rw (
      ← c.self.view_is,
      sym
          (get_or_read rows c.args.row c.index-2.result.now (inside (goal.at.returns c).After-self) c.index-2.ensures
          []),
    )
    c.server.ensures
