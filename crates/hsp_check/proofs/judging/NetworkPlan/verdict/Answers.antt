use Rattle.std.proofs.Common.{rules}
use Rattle.hsp_check.proofs.judging.NetworkPlan.verdict.Goals as goal

pub returns : goal.returns
returns c = search rules

pub returns-then-not-meets_loads : goal.returns-then-not-meets_loads
returns-then-not-meets_loads c = search rules
