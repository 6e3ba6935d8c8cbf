use Rattle.std.proofs.Common.{◌+◌, ◌-◌, ◌^◌, ◌∙◌, ap, min}
use Rattle.hsp_price_plan.proofs.RowKeeping.{kept_by_near}
use Rattle.hsp_price_plan.proofs.keeping.keep_near.Goals as goal

pub returns : goal.returns
returns c =
    kept_by_near c.args.extras.now c.args.shape.now c.args.entries.now c.keep_up_to.new.entries c.keep_up_to.result
    c.requires.many c.requires.low c.requires.within c.args.window c.saturating_add-most.result
    (c.saturating_add-most.ensures ∙ ap (λ least. min (least + c.args.window) (2 ^ 64 - 1)) c.least_pay.ensures)
    c.keep_up_to.ensures
