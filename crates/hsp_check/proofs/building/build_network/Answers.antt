use Rattle.hsp_check.proofs.InstanceNetwork.{is_network, are_cheap, network}
use Rattle.hsp_check.proofs.building.build_network.Goals as goal

pub returns-clause-network : goal.returns-clause-network
returns-clause-network c =
    let numbers = c.in_ok-numbers.ensures in
    network c.args.instance.now c.in_ok-numbers.numbers c.in_ok-arcs.arcs.arc_flows.items numbers.demands
    numbers.capacities numbers.limits numbers.server_hosts c.in_ok-arcs.ensures.arcs.arcs

pub returns-clause-is : goal.returns-clause-is
returns-clause-is c = is_network c.args.instance.now c.in_ok-arcs.ensures.within

pub returns-clause-cheap : goal.returns-clause-cheap
returns-clause-cheap c = are_cheap c.args.instance.now c.in_ok-arcs.ensures.within
