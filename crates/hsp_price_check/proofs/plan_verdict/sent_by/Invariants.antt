use Rattle.std.proofs.Common.{◌≡◌, sum, take}
use Rattle.hsp_price_check.specs.Passed.{capped}
use Rattle.hsp_price_check.proofs.plan_verdict.sent_by.Given as goal

abbrev pub invariant-loop-amount : goal.invariant-loop-amount
invariant-loop-amount l = l.sum ≡ capped (sum (take l.amount-index l.class.amounts))
