use Rattle.std.proofs.Common.{◌≡◌, take}
use Rattle.hsp_price_plan.specs.Shortage.{caught_demand}
use Rattle.hsp_price_plan.proofs.shortage.caught_demand.Given as goal

-- what the groups so far ask for
abbrev pub invariant-loop-group : goal.invariant-loop-group
invariant-loop-group l = l.sum ≡ caught_demand l.reached (take l.group-index l.groups)
