use Rattle.std.proofs.Common.{◌≡◌, take}
use Rattle.hsp_price_check.specs.Passed.{capped}
use Rattle.hsp_price_plan.specs.ClassSums.{sent_of}
use Rattle.hsp_price_plan.specs.Solving.{arcs_in}
use Rattle.hsp_price_plan.proofs.FlowCosts.{sent_cost}
use Rattle.hsp_price_plan.proofs.cost.flow_cost.Given as goal

-- what the groups so far cost
abbrev pub invariant-loop-group : goal.invariant-loop-group
invariant-loop-group l = record {
  begin : l.begin ≡ arcs_in (take l.group-index l.groups);
  cost : l.sum ≡ capped (sent_cost (sent_of (take l.group-index l.groups) l.flows));
}
