use Rattle.hsp_price_plan.proofs.RowKeeping.{kept_by_least}
use Rattle.hsp_price_plan.proofs.keeping.keep_least.Goals as goal

pub returns : goal.returns
returns c =
    kept_by_least c.args.extras.now c.args.shape.now c.args.entries.now c.keep_up_to.new.entries c.keep_up_to.result
    c.requires.many c.requires.low c.requires.within c.least_pay-least.result c.least_pay-least.ensures
    c.keep_up_to.ensures
