-- The arcs of a transportation network: node 0 is the sink, then come the hosts, the servers and the sources. The arc
-- of a host leads to the sink, that of a server to its host or to the sink, and each arc from its source to its server.
use Rattle.std.specs.Prelude.{◌≡◌, ℕ, ◌+◌, ◌*◌, ◌<◌, List, length, slice_index, Option, Some, None}
use Rattle.hsp_network.specs.Network.{Transport, host_of}

abbrev pub hosts_of : Transport → ℕ
hosts_of net = length net.limits

abbrev pub servers_of : Transport → ℕ
servers_of net = length net.capacities

-- the number of the first arc's arc
abbrev pub base_of : Transport → ℕ
base_of net = hosts_of net + servers_of net

-- the first source's node
abbrev pub first_of : Transport → ℕ
first_of net = 1 + hosts_of net + servers_of net

-- the node of a server's host, or the sink
abbrev pub host_node : Option ℕ → ℕ
host_node None = 0
host_node (Some h) = h + 1

-- the list is the old one with n numbers more
pub record Appends (old new : List ℕ) (n : ℕ) (f : ℕ → ℕ) : Type 0 where
  pub many : length new ≡ length old + n
  pub kept : (k : ℕ) → k < length old → slice_index new k ≡ slice_index old k
  pub added : (k : ℕ) → k < n → slice_index new (length old + k) ≡ f k

pub record TailsOf (net : Transport) (tails : List ℕ) : Type 0 where
  pub many : length tails ≡ base_of net + length net.sources
  pub node : (k : ℕ) → k < base_of net → slice_index tails k ≡ 1 + k
  pub arc : (k : ℕ) → k < length net.sources
      → slice_index tails (base_of net + k) ≡ first_of net + slice_index net.sources k

pub record HeadsOf (net : Transport) (heads : List ℕ) : Type 0 where
  pub many : length heads ≡ base_of net + length net.sources
  pub host : (h : ℕ) → h < hosts_of net → slice_index heads h ≡ 0
  pub server : (j : ℕ) → j < servers_of net → slice_index heads (hosts_of net + j) ≡ host_node (host_of net j)
  pub arc : (k : ℕ) → k < length net.sources
      → slice_index heads (base_of net + k) ≡ 1 + hosts_of net + slice_index net.servers k

pub record CostsOf (net : Transport) (costs : List ℕ) : Type 0 where
  pub many : length costs ≡ base_of net + length net.sources
  pub node : (k : ℕ) → k < base_of net → slice_index costs k ≡ 0
  pub arc : (k : ℕ) → k < length net.sources → slice_index costs (base_of net + k) ≡ slice_index net.costs k

pub record CapacitiesOf (net : Transport) (capacities : List ℕ) : Type 0 where
  pub many : length capacities ≡ base_of net + length net.sources
  pub host : (h : ℕ) → h < hosts_of net → slice_index capacities h ≡ slice_index net.limits h
  pub server : (j : ℕ) → j < servers_of net → slice_index capacities (hosts_of net + j) ≡ slice_index net.capacities j
  pub arc : (k : ℕ) → k < length net.sources → slice_index capacities (base_of net + k) ≡ 18446744073709551615

pub record SuppliesOf (net : Transport) (supplies : List ℕ) : Type 0 where
  pub many : length supplies ≡ first_of net + length net.demands
  pub node : (v : ℕ) → v < first_of net → slice_index supplies v ≡ 0
  pub source : (i : ℕ) → i < length net.demands → slice_index supplies (first_of net + i) ≡ slice_index net.demands i

-- every number on the way fits: the nodes have numbers, and a demand and three times a path's cost are below the
-- greatest number
pub record IsSmall (net : Transport) : Type 0 where
  pub few : first_of net + length net.demands + 1 < 4294967296
  pub few_arcs : base_of net + length net.sources < 4294967296
  pub cheap : (k : ℕ) → k < length net.sources →
      3 * ((first_of net + length net.demands + 1) * slice_index net.costs k) < 18446744073709551615
  pub low : (i : ℕ) → i < length net.demands → slice_index net.demands i < 18446744073709551615

-- the lists of a network's arcs
pub record ArcsOf (net : Transport) (tail head cost capacity supply : List ℕ) : Type 0 where
  pub tails : TailsOf net tail
  pub heads : HeadsOf net head
  pub costs : CostsOf net cost
  pub capacities : CapacitiesOf net capacity
  pub supplies : SuppliesOf net supply
