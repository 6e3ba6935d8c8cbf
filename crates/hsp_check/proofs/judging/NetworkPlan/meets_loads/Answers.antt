use Rattle.std.proofs.Common.{rules}
use Rattle.hsp_check.proofs.judging.NetworkPlan.meets_loads.Goals as goal

pub returns-then-are_within : goal.returns-then-are_within
returns-then-are_within c = search rules
