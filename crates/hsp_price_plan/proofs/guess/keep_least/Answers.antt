use Rattle.std.proofs.Common.{arith}
use Rattle.hsp_prices.specs.KeptRows.{with_least}
use Rattle.hsp_price_check.specs.Extras.{pay_by}
use Rattle.hsp_price_plan.proofs.StillRows.{least_leaves}
use Rattle.hsp_price_plan.proofs.Kept.{outlasting, within_many}
use Rattle.hsp_price_plan.proofs.guess.keep_least.Goals as goal

pub keep_least-requires-clause-within : goal.keep_least-requires-clause-within
keep_least-requires-clause-within c = within_many c.args.numbers.now c.args.rows.now.rows c.requires (omega arith)

pub returns-then-are_low : goal.returns-then-are_low
returns-then-are_low c =
    outlasting (with_least (pay_by c.args.extras.now)) (least_leaves (pay_by c.args.extras.now))
    c.args.numbers.now c.args.rows.now c.keep_least.new.self c.keep_least.ensures.kept
