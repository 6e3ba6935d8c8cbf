use Rattle.std.proofs.Common.{◌≡◌, arith, refl, slice_index_or, sym}
use Rattle.std.proofs.lemmas.Option.{slice_get-get_or}
use Rattle.hsp_dispatch.specs.declared.share.Cell.{Cell}
use Rattle.hsp_dispatch.proofs.Standings.{stands, sum_from}
use Rattle.hsp_dispatch.proofs.front_share.stand_with.Goals as goal

pub returns-then-from-own : goal.returns-then-from-own
returns-then-from-own c =
    let fronts = c.args.front.fronts in
    let front = c.args.front.number in
    let cells = c.args.cells.now in
    let k = c.cells.number in
    let none : Cell = record { site = 0; server = 0; left = 0 } in
    let own =
    sum_from fronts front k cells (slice_index_or cells k none)
    (slice_get-get_or cells k none (omega (arith, c.cells.invariant.0, c.cells-test.true))) in
    stands fronts front c.args.left c.cells.here k cells _ c.cells.invariant.1 c.cells.invariant.2
    (λ first. omega (arith, c.if-from-own.true, c.share_of_front-own.ensures, own, c.cells.invariant.2)) refl refl

pub returns : goal.returns
returns c =
    let none : c.cells.number ≡ 0 = omega (arith, c.cells-test.false) in
    stands c.args.front.fronts c.args.front.number c.args.left c.cells.here c.cells.number c.args.cells.now _
    c.cells.invariant.1 c.cells.invariant.2
    (λ more. absurd (more none)) (sym none) refl
