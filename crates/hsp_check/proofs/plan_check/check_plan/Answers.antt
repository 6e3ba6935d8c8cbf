use Rattle.std.proofs.Common.{◌≤◌, ap, rules}
use Rattle.hsp_check.specs.declared.arc.NetworkArc.{NetworkArc}
use Rattle.hsp_check.specs.declared.sums.ArcFlow.{ArcFlow}
use Rattle.hsp_check.specs.Network.{Network}
use Rattle.hsp_check.proofs.FlowSums.{all_of_map}
use Rattle.hsp_check.proofs.Ranges.{few_uses}
use Rattle.hsp_check.proofs.plan_check.check_plan.Goals as goal

pub flows_by_uses-requires-clause-few : goal.flows_by_uses-requires-clause-few
flows_by_uses-requires-clause-few c =
    rw c.uses.ensures (few_uses c.args.plan.now.uses c.requires.ranges.uses c.requires.ranges.order)

pub returns-in_default : goal.returns-in_default
returns-in_default c = (rw c.uses.ensures at c.in_default.ensures.lost, search rules)

pub with-requires-clause-cheap : goal.with-requires-clause-cheap
with-requires-clause-cheap c =
    rw c.deref.ensures.value
    (all_of_map (λ (l : ArcFlow). l.arc) (λ (a : NetworkArc). a.cost ≤ 1000000) c.in-Some.arc_flows.items
    (rw c.in-Some.ensures.arc_flows.arcs_are c.requires.cheap))

pub judge-requires-clause-uses : goal.judge-requires-clause-uses
judge-requires-clause-uses c =
    rw (
      ap (λ (n : Network). n.arcs) c.with.ensures.network,
      c.deref.ensures.value,
      c.in-Some.ensures.arc_flows.arcs_are,
    ) (rw c.uses.ensures at c.in-Some.ensures.each)
