-- Groups of rows: those of one region that keep the same arcs are one group. Each group is a source of a network whose
-- arcs are those that are kept.
use Rattle.std.specs.Prelude.{◌≡◌, ◌&&◌, ℕ, Bool, true, false, List, map, sum_by, All, if◌then◌else◌}
use Rattle.std.specs.List.{AllPairs, list_any}
use Rattle.std.specs.Str.{bytes_eq}
use Rattle.hsp_check.specs.Instance.{arcs_from}
use Rattle.hsp_instance.specs.Instance.{Host}
use Rattle.hsp_instance.specs.declared.arc.Arc.{Arc}
use Rattle.hsp_network.specs.Network.{Transport}
use Rattle.hsp_prices.specs.Rows.{Service}
use Rattle.hsp_prices.specs.Least.{servers_of}
use Rattle.hsp_prices.specs.KeptRows.{KeptRow, kept_in}

-- the region and the kept arcs that a group's rows share, and what they ask for together
pub record Group : Type 0 where
  pub region : List ℕ
  pub arcs : List Arc
  pub demand : ℕ

-- a row is of a group: it is of its region, and its kept arcs lead to the same servers
abbrev pub is_in : Group → KeptRow → Bool
is_in group row = bytes_eq group.region row.region && bytes_eq (servers_of group.arcs) (servers_of (kept_in row))

-- what the rows of a group ask for together
abbrev pub asked_by : List KeptRow → Group → ℕ
asked_by rows group = sum_by (λ row. if is_in group row then row.count else 0) rows

-- two groups are of one region, and their arcs lead to the same servers
abbrev pub is_same : Group → Group → Bool
is_same group other =
    bytes_eq group.region other.region && bytes_eq (servers_of group.arcs) (servers_of other.arcs)

-- Each row has one group, and each group has a row. A group has the kept arcs of its rows, and asks for what they do.
pub record AreGroupsOf (rows : List KeptRow) (groups : List Group) : Type 0 where
  pub placed : All (λ row. list_any (λ group. is_in group row) groups ≡ true) rows
  pub apart : AllPairs (λ group later. is_same group later ≡ false) groups
  pub used : All (λ group. list_any (λ row. is_in group row) rows ≡ true) groups
  pub arcs : All (λ row. All (λ group. is_in group row ≡ true → kept_in row ≡ group.arcs) groups) rows
  pub asked : All (λ group. group.demand ≡ asked_by rows group) groups

-- the network of the groups, whose sources they are, by columns
abbrev pub network_of_groups : Service → List Group → Transport
network_of_groups at groups =
    let arcs = arcs_from 0 (map (λ group. group.arcs) groups) in record {
      demands = map (λ group. group.demand) groups;
      capacities = map (λ server. server.capacity) at.servers;
      limits = map (λ (host : Host). host.limit) at.hosts;
      hosts = map (λ server. server.host) at.servers;
      sources = map (λ a. a.row) arcs;
      servers = map (λ a. a.server) arcs;
      costs = map (λ a. a.cost) arcs;
    }
