-- The networks that lists hold.
use Rattle.std.specs.Prelude.{List, map}
use Rattle.hsp_check.specs.declared.building.IndexedNetwork.{IndexedNetwork}
use Rattle.hsp_check.specs.declared.lists.FlowLists.{FlowLists}
use Rattle.hsp_check.specs.declared.numbers.NetworkNumbers.{NetworkNumbers}
use Rattle.hsp_check.specs.declared.sums.ArcFlow.{ArcFlow}
use Rattle.hsp_check.specs.Network.{Network}
use Rattle.hsp_check.specs.ArcFlows.{host_in}

-- the network that the lists are
abbrev pub network_in : FlowLists → Network
network_in lists = record {
  demands = lists.demands.now;
  capacities = lists.capacities.now;
  limits = lists.limits.now;
  host_of = host_in lists.server_hosts.now;
  arcs = map (λ l. l.arc) lists.arc_flows.now;
}

-- the network of numbers and arcs
abbrev pub network_with : NetworkNumbers → List ArcFlow → Network
network_with numbers arc_flows = record {
  demands = numbers.demands.items;
  capacities = numbers.capacities.items;
  limits = numbers.limits.items;
  host_of = host_in numbers.server_hosts.items;
  arcs = map (λ l. l.arc) arc_flows;
}

-- the network of its numbers and its arcs
abbrev pub indexed_network : IndexedNetwork → Network
indexed_network network = network_with network.numbers network.arcs.arc_flows.items
