-- The network that lists hold.
use Rattle.hsp_flow.specs.declared.amounts.TransportLists.{TransportLists}
use Rattle.hsp_network.specs.Network.{Transport}

abbrev pub transport_in : TransportLists → Transport
transport_in lists = record {
  demands = lists.demands.items;
  capacities = lists.capacities.items;
  limits = lists.limits.items;
  hosts = lists.hosts.items;
  sources = lists.arcs.sources.items;
  servers = lists.arcs.servers.items;
  costs = lists.arcs.costs.items;
}
