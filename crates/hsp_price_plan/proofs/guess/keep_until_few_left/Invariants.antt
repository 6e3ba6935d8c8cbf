use Rattle.hsp_price_plan.specs.Planning.{Outlasts}
use Rattle.hsp_price_plan.proofs.guess.keep_until_few_left.Given as goal

abbrev pub invariant-rounds : goal.invariant-rounds
invariant-rounds g l = Outlasts l.numbers l.fn.rows.rows l.rows.rows
