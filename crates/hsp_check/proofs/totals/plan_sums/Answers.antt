use Rattle.std.proofs.Common.{◌≤◌, ap}
use Rattle.hsp_check.specs.declared.arc.NetworkArc.{NetworkArc}
use Rattle.hsp_check.specs.declared.sums.ArcFlow.{ArcFlow}
use Rattle.hsp_check.specs.Network.{Network}
use Rattle.hsp_check.proofs.FlowSums.{all_of_map}
use Rattle.hsp_check.proofs.Ranges.{few_uses}
use Rattle.hsp_check.proofs.Reached.{found_where}
use Rattle.hsp_check.proofs.totals.plan_sums.Goals as goal

pub flows_by_uses-requires-clause-few : goal.flows_by_uses-requires-clause-few
flows_by_uses-requires-clause-few c =
    rw c.uses.ensures (few_uses c.args.plan.now.uses c.requires.ranges.uses c.requires.ranges.order)

pub unwrap-arc_flows-requires : goal.unwrap-arc_flows-requires
unwrap-arc_flows-requires c =
    let network = c.in_ok-numbers in
    let same = (ap (λ (n : Network). n.arcs) network.ensures.network) in
    found_where c.flows_by_uses.result (rw (c.uses.ensures, same) c.requires.valid.allowed) c.flows_by_uses.ensures.lost

pub with-requires-clause-cheap : goal.with-requires-clause-cheap
with-requires-clause-cheap c =
    let network = c.in_ok-numbers in
    let same = (ap (λ (n : Network). n.arcs) network.ensures.network) in
    let arc_flows = rw c.unwrap-arc_flows.ensures at c.flows_by_uses.ensures.arc_flows in
    rw c.deref.ensures.value
    (all_of_map (λ (l : ArcFlow). l.arc) (λ (a : NetworkArc). a.cost ≤ 1000000) c.unwrap-arc_flows.result.items
    (rw (arc_flows.arcs_are, same) network.ensures.cheap))
