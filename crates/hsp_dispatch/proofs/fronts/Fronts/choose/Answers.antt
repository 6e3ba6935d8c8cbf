use Rattle.std.proofs.Common.{◌≡◌, ◌<◌, ◌∙◌, Some, arith, sym}
use Rattle.hsp_dispatch.specs.Dispatch.{row_of}
use Rattle.hsp_dispatch.specs.Fronts.{fronts_of}
use Rattle.hsp_dispatch.specs.Steps.{entry_of}
use Rattle.hsp_dispatch.proofs.FrontsHeld.{given_at}
use Rattle.hsp_dispatch.proofs.fronts.Fronts.choose.Goals as goal

pub returns-clause-takes : goal.returns-clause-takes
returns-clause-takes c =
    let inside : c.args.front < fronts_of c.args.self.now =
    rw (← c.self.view_is) (omega (arith, c.if-front-self.false)) in
    let found : row_of c.args.self.now.instance (entry_of c.args.lent) ≡ Some c.in-Some.row =
    rw c.instance.ensures.own at (sym c.in_ok-found.ensures.row ∙ c.in-Some.is) in
    given_at c.args.self.now c.take.new.self c.args.front c.in-Some.row (entry_of c.args.lent) c.take.result
    c.given_by.result inside
    c.in_ok-found.ensures.handle found c.given_by.ensures c.take.ensures.taken c.take.ensures.rest
