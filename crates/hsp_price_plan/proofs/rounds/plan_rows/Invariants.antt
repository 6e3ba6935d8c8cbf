use Rattle.hsp_prices.specs.KeptRows.{loose_of}
use Rattle.hsp_price_plan.specs.Planning.{Outlasts}
use Rattle.hsp_price_plan.proofs.rounds.plan_rows.Given as goal

abbrev pub invariant-rounds : goal.invariant-rounds
invariant-rounds g l = Outlasts l.numbers l.fn.rows.rows l.rows.rows

abbrev pub decreases-rounds : goal.decreases-rounds
decreases-rounds g l = loose_of l.rows.rows
