use Rattle.std.proofs.Common.{arith}
use Rattle.hsp_prices.specs.KeptRows.{with_least}
use Rattle.hsp_price_check.specs.Extras.{pay_by}
use Rattle.hsp_price_plan.proofs.StillRows.{least_leaves}
use Rattle.hsp_price_plan.proofs.Kept.{within_many}
use Rattle.hsp_plan_tests.proofs.Fillings.{still_some}
use Rattle.hsp_plan_tests.proofs.keeping.keep_least.Goals as goal

pub keep_least-requires-clause-within : goal.keep_least-requires-clause-within
keep_least-requires-clause-within g c =
    within_many c.args.filled.now.numbers c.args.filled.now.rows.rows c.requires (omega arith)

pub returns : goal.returns
returns g c =
    still_some (with_least (pay_by c.args.extras.now))
    (least_leaves (pay_by c.args.extras.now))
    c.args.filled.now.numbers c.args.filled.now.rows c.keep_least.new.self c.keep_least.ensures.kept c.requires
