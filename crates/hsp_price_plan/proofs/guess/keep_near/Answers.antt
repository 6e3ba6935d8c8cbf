use Rattle.std.proofs.Common.{arith}
use Rattle.hsp_price_check.specs.Extras.{pay_by}
use Rattle.hsp_price_plan.specs.Keeping.{with_near}
use Rattle.hsp_price_plan.proofs.StillRows.{near_leaves}
use Rattle.hsp_price_plan.proofs.Kept.{outlasting, within_many}
use Rattle.hsp_price_plan.proofs.guess.keep_near.Goals as goal

pub keep_near-requires-clause-within : goal.keep_near-requires-clause-within
keep_near-requires-clause-within c = within_many c.args.numbers.now c.args.rows.now.rows c.requires (omega arith)

pub returns-then-are_low : goal.returns-then-are_low
returns-then-are_low c =
    outlasting (with_near (pay_by c.args.extras.now) c.args.window)
    (near_leaves (pay_by c.args.extras.now) c.args.window)
    c.args.numbers.now c.args.rows.now c.keep_near.new.self c.keep_near.ensures
