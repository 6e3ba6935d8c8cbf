use Rattle.std.proofs.Common.{ap}
use Rattle.hsp_check.specs.Network.{Network}
use Rattle.hsp_check.proofs.PlannedArcs.{are_planned}
use Rattle.hsp_check.proofs.Ranges.{few_uses}
use Rattle.hsp_check.proofs.Reached.{found_where}
use Rattle.hsp_check.proofs.planned.planned_arcs.Goals as goal

pub flows_by_uses-requires-clause-few : goal.flows_by_uses-requires-clause-few
flows_by_uses-requires-clause-few c =
    rw c.uses.ensures (few_uses c.args.plan.now.uses c.requires.ranges.uses c.requires.ranges.order)

pub unwrap-requires : goal.unwrap-requires
unwrap-requires c =
    let network = c.in_ok-network in
    let same = (ap (λ (n : Network). n.arcs) network.ensures.network) in
    found_where c.flows_by_uses.result (rw (c.uses.ensures, same) c.requires.valid.allowed) c.flows_by_uses.ensures.lost

pub returns : goal.returns
returns c =
    let network = c.in_ok-network in
    let same = (ap (λ (n : Network). n.arcs) network.ensures.network) in
    let arc_flows = rw (c.unwrap.ensures, c.uses.ensures, same) at c.flows_by_uses.ensures.arc_flows in
    are_planned c.args.instance.now _ network.network.arcs.arc_flows.items _ network.ensures.is network.ensures.cheap
    network.ensures.few same arc_flows
