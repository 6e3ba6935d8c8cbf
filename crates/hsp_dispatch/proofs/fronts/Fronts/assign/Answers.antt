use Rattle.std.proofs.Common.{◌≡◌, ◌<◌, ◌∙◌, Some, arith, refl, sym}
use Rattle.hsp_dispatch.specs.Dispatch.{row_of}
use Rattle.hsp_dispatch.specs.Fronts.{fronts_of}
use Rattle.hsp_log.specs.Entries.{query}
use Rattle.hsp_dispatch.proofs.FrontsHeld.{answered_at}
use Rattle.hsp_dispatch.proofs.fronts.Fronts.assign.Goals as goal

pub returns-clause-answer : goal.returns-clause-answer
returns-clause-answer c =
    let entry = query c.args.region.now c.args.handle in
    let inside : c.args.front < fronts_of c.args.self.now =
    rw (← c.self.view_is) (omega (arith, c.if-front-self.false)) in
    let found : row_of c.self.inside.instance.now entry ≡ Some c.in-Some.row =
    rw c.bytes.ensures.octets at (sym c.find_row.ensures ∙ c.in-Some.is) in
    let own : row_of c.args.self.now.instance entry ≡ Some c.in-Some.row = rw (← c.self.view_is) found in
    let same : c.self.inside.instance.now ≡ c.args.self.now.instance = rw (← c.self.view_is) refl in
    rw (c.served.ensures, same)
    (answered_at c.args.self.now c.args.front c.in-Some.row entry c.take-taken.result inside own
    c.take-taken.ensures.taken)

pub returns-clause-taken : goal.returns-clause-taken
returns-clause-taken c =
    let entry = query c.args.region.now c.args.handle in
    let found : row_of c.self.inside.instance.now entry ≡ Some c.in-Some.row =
    rw c.bytes.ensures.octets at (sym c.find_row.ensures ∙ c.in-Some.is) in
    let own : row_of c.args.self.now.instance entry ≡ Some c.in-Some.row = rw (← c.self.view_is) found in
    c.take-taken.ensures.rest entry own
