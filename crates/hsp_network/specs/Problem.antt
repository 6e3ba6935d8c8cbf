-- A network's struct as the problem that it states.
use Rattle.hsp_network.specs.Network.{Transport}
use Rattle.hsp_network.specs.declared.network.Network.{Network}
use Rattle.hsp_network.specs.declared.network.NetworkLists.{NetworkLists}

abbrev pub problem_of : Network → Transport
problem_of n = record {
  demands = n.demands.now;
  capacities = n.capacities.now;
  limits = n.limits.now;
  hosts = n.hosts.now;
  sources = n.sources.now;
  servers = n.servers.now;
  costs = n.costs.now;
}

-- the same of lists that may be no network
abbrev pub problem_in : NetworkLists → Transport
problem_in n = record {
  demands = n.demands.now;
  capacities = n.capacities.now;
  limits = n.limits.now;
  hosts = n.hosts.now;
  sources = n.sources.now;
  servers = n.servers.now;
  costs = n.costs.now;
}
