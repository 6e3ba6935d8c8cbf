-- The transportation network of an instance, whose sources are its rows, and the uses of a flow through it.
use Rattle.std.specs.Prelude.{ℕ, ◌+◌, ◌*◌, ◌≤◌, ◌==◌, ⊤, Bool, All, length, List, [], ◌∷◌, ◌++◌, map, if◌then◌else◌}
use Rattle.hsp_cert.specs.declared.use_line.UseLine.{UseLine}
use Rattle.hsp_cert.specs.Certificate.{Claim}
use Rattle.hsp_cert.specs.Certificate.Claim.{best, short}
use Rattle.hsp_instance.specs.Instance.{Instance}
use Rattle.hsp_check.specs.Network.{Network}
use Rattle.hsp_check.specs.declared.arc.NetworkArc.{NetworkArc}
use Rattle.hsp_check.specs.ArcFlows.{host_in}
use Rattle.hsp_check.specs.Instance.{arcs_from, capacities_in, demands_in, limits_in, server_hosts_in}
use Rattle.hsp_network.specs.Network.{Transport}

-- the row that an arc leaves, the server that it enters, and what a query costs on it
abbrev pub row_of : NetworkArc → ℕ
row_of a = a.row

abbrev pub server_of : NetworkArc → ℕ
server_of a = a.server

abbrev pub cost_of : NetworkArc → ℕ
cost_of a = a.cost

-- the servers and hosts of an instance, and sources with these demands over these arcs
abbrev pub network_over : Instance → List ℕ → List NetworkArc → Network
network_over it demands arcs = record {
  demands = demands;
  capacities = capacities_in it;
  limits = limits_in it;
  host_of = host_in (server_hosts_in it);
  arcs = arcs;
}

-- the same by columns
abbrev pub transport_over : Instance → List ℕ → List NetworkArc → Transport
transport_over it demands arcs = record {
  demands = demands;
  capacities = capacities_in it;
  limits = limits_in it;
  hosts = server_hosts_in it;
  sources = map row_of arcs;
  servers = map server_of arcs;
  costs = map cost_of arcs;
}

-- the network of an instance, whose sources are its rows
abbrev pub transport_of : Instance → Transport
transport_of it = transport_over it (demands_in it) (arcs_from 0 it.arcs)

-- the use of an arc that has flow
abbrev pub use_of : NetworkArc → ℕ → List UseLine
use_of a flow = if flow == 0 then [] else record { row = a.row; site = a.site; count = flow } ∷ []

-- the uses of arcs with their flows
abbrev pub uses_of : List NetworkArc → List ℕ → List UseLine
uses_of [] flows = []
uses_of (a ∷ arcs) [] = []
uses_of (a ∷ arcs) (flow ∷ flows) = use_of a flow ++ uses_of arcs flows

-- the numbers of the rows that are flagged, where the first flag is that of row i
abbrev pub flagged_from : ℕ → List Bool → List ℕ
flagged_from i [] = []
flagged_from i (flag ∷ flags) = (if flag then i ∷ [] else []) ++ flagged_from (i + 1) flags

-- each price is within the limit
abbrev pub AreWithin : ℕ → List ℕ → Type 0
AreWithin limit prices = All (λ price. price ≤ limit) prices

-- No price of a plan is above the greatest cost of an arc for each row, server and host, and once more.
abbrev pub HasLimitedPrices : Network → Claim → Type 0
HasLimitedPrices n (best c) = (most : ℕ) → All (λ a. a.cost ≤ most) n.arcs →
    let limit = (length n.demands + length n.capacities + length n.limits + 1) * most in
    AreWithin limit c.row_prices × AreWithin limit c.server_prices × AreWithin limit c.host_prices
HasLimitedPrices n (short c) = ⊤
