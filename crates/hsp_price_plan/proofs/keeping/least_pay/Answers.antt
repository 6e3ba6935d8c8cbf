use Rattle.std.proofs.Common.{◌+◌, ◌∙◌, ap, drop, length, min, sym}
use Rattle.hsp_instance.specs.RowArcs.{IsWithin}
use Rattle.hsp_price_check.specs.Extras.{pay_by}
use Rattle.hsp_price_plan.specs.Entries.{bare_arcs}
use Rattle.hsp_price_plan.specs.Keeping.{least_from}
use Rattle.hsp_price_plan.proofs.ArcEntries.{bare_at, no_site}
use Rattle.hsp_price_plan.proofs.LeastTests.{least_all, least_more}
use Rattle.hsp_price_plan.proofs.keeping.least_pay.Goals as goal

pub pay_over-requires-clause-within : goal.pay_over-requires-clause-within
pay_over-requires-clause-within c =
    bare_at (IsWithin (length c.args.extras.now)) c.args.shape.now c.args.entries.now c.loop-i.i no_site
    c.loop-i-test.true c.requires.many c.requires.within

pub loop-i-preserved : goal.loop-i-preserved
loop-i-preserved c =
    let pay = pay_by c.args.extras.now in
    ap (λ least. least_from pay least (drop (c.loop-i.i + 1) (bare_arcs c.args.shape.now c.args.entries.now)))
    (c.min-least.ensures ∙ ap (min c.loop-i.least) c.pay_over.ensures)
    ∙ sym (least_more pay c.args.shape.now c.args.entries.now c.loop-i.i c.loop-i.least no_site c.loop-i-test.true
    c.requires.many) ∙ c.loop-i.invariant

pub returns : goal.returns
returns c =
    sym (least_all (pay_by c.args.extras.now) c.args.shape.now c.args.entries.now c.loop-i.i c.loop-i.least
    c.loop-i-test.false c.requires.many) ∙ c.loop-i.invariant
