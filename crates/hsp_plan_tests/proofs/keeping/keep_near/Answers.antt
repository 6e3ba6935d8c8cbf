use Rattle.std.proofs.Common.{arith}
use Rattle.hsp_price_check.specs.Extras.{pay_by}
use Rattle.hsp_price_plan.specs.Keeping.{with_near}
use Rattle.hsp_price_plan.proofs.StillRows.{near_leaves}
use Rattle.hsp_price_plan.proofs.Kept.{within_many}
use Rattle.hsp_plan_tests.proofs.Fillings.{still_some}
use Rattle.hsp_plan_tests.proofs.keeping.keep_near.Goals as goal

pub keep_near-requires-clause-within : goal.keep_near-requires-clause-within
keep_near-requires-clause-within g c =
    within_many c.args.filled.now.numbers c.args.filled.now.rows.rows c.requires (omega arith)

pub returns : goal.returns
returns g c =
    still_some (with_near (pay_by c.args.extras.now) c.args.window)
    (near_leaves (pay_by c.args.extras.now) c.args.window)
    c.args.filled.now.numbers c.args.filled.now.rows c.keep_near.new.self c.keep_near.ensures c.requires
