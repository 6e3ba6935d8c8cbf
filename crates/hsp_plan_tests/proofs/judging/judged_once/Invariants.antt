use Rattle.hsp_price_check.specs.Checking.{IsOfSomeRows}
use Rattle.hsp_plan_tests.proofs.judging.judged_once.Given as goal

abbrev pub invariant-loop-row : goal.invariant-loop-row
invariant-loop-row l = IsOfSomeRows l.check
