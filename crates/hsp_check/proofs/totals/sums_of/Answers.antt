use Rattle.std.proofs.Common.{◌∙◌, ◌*◌, rules}
use Rattle.hsp_check.specs.Uses.{table}
use Rattle.hsp_check.proofs.FlowSums.{flow_sum}
use Rattle.hsp_check.proofs.totals.sums_of.Goals as goal

pub returns : goal.returns
returns c = record {
  loads = c.in_ok-loads.ensures (table c.args.plan.now.uses) c.requires.arc_flows;
  cost =
      c.total_of.ensures
      ∙ flow_sum (λ a m. a.cost * m) (table c.args.plan.now.uses) c.args.lists.arc_flows.now c.requires.arc_flows;
  demand_worth = search rules;
  capacity_worth = search rules;
}
