-- The network that an instance asks about.
use Rattle.std.specs.Prelude.{ℕ, ◌+◌, List, [], ◌∷◌, ◌++◌, Option, map}
use Rattle.hsp_instance.specs.Instance.{Instance}
use Rattle.hsp_instance.specs.declared.arc.Arc.{Arc}
use Rattle.hsp_check.specs.declared.arc.NetworkArc.{NetworkArc}
use Rattle.hsp_check.specs.Network.{Network}
use Rattle.hsp_check.specs.ArcFlows.{host_in}

-- an arc of the instance, with its row
abbrev pub arc_of : ℕ → Arc → NetworkArc
arc_of i a = record { row = i; site = a.site; server = a.server; cost = a.cost }

-- the arcs of the rows from row i on, one row after another
abbrev pub arcs_from : ℕ → List (List Arc) → List NetworkArc
arcs_from i [] = []
arcs_from i (arcs ∷ rest) = map (arc_of i) arcs ++ arcs_from (i + 1) rest

-- what each row asks for, and what each server and each host can take
abbrev pub demands_in : Instance → List ℕ
demands_in it = map (λ r. r.count) it.rows

abbrev pub capacities_in : Instance → List ℕ
capacities_in it = map (λ s. s.capacity) it.servers

abbrev pub limits_in : Instance → List ℕ
limits_in it = map (λ h. h.limit) it.hosts

-- the host that each server stands on, if it stands on one
abbrev pub server_hosts_in : Instance → List (Option ℕ)
server_hosts_in it = map (λ s. s.host) it.servers

-- each row asks for its count, each server takes its capacity, and the servers on each host no more than its limit
abbrev pub network_of : Instance → Network
network_of it = record {
  demands = demands_in it;
  capacities = capacities_in it;
  limits = limits_in it;
  host_of = host_in (server_hosts_in it);
  arcs = arcs_from 0 it.arcs;
}
