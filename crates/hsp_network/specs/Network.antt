-- A network by columns, as the solver reads it: its arcs are numbered, and their ends and costs stand in lists.
use Rattle.std.specs.Prelude.{◌≡◌, ℕ, ◌<◌, ◌≤◌, List, length, slice_index, Option, Some}
use Rattle.std.specs.List.{range_with_len}
use Rattle.hsp_transport.specs.Lists.{host_in}
use Rattle.hsp_transport.specs.Network.{Network}

-- the demand of each source, the capacity of each server, the limit of each host, the host of each server,
-- and for each arc the source that it leaves, the server that it enters and its cost
pub record Transport : Type 0 where
  pub demands : List ℕ
  pub capacities : List ℕ
  pub limits : List ℕ
  pub hosts : List (Option ℕ)
  pub sources : List ℕ
  pub servers : List ℕ
  pub costs : List ℕ

abbrev pub host_of : Transport → ℕ → Option ℕ
host_of net j = host_in net.hosts j

-- all ends are there, and the arcs stand in the order of their sources
pub record IsNetwork (net : Transport) : Type 0 where
  pub hosts_many : length net.hosts ≡ length net.capacities
  pub servers_many : length net.servers ≡ length net.sources
  pub costs_many : length net.costs ≡ length net.sources
  pub sources_in : (k : ℕ) → k < length net.sources → slice_index net.sources k < length net.demands
  pub servers_in : (k : ℕ) → k < length net.sources → slice_index net.servers k < length net.capacities
  pub hosts_in : (j h : ℕ) → host_of net j ≡ Some h → h < length net.limits
  pub ordered : (j k : ℕ) → j ≤ k → k < length net.sources → slice_index net.sources j ≤ slice_index net.sources k

-- the network of the columns: an arc is its number
abbrev pub numbered : Transport → Network ℕ
numbered net = record {
  demands = net.demands;
  capacities = net.capacities;
  limits = net.limits;
  host_of = host_of net;
  arcs = range_with_len 0 (length net.sources);
  source = λ k. slice_index net.sources k;
  server = λ k. slice_index net.servers k;
  cost = λ k. slice_index net.costs k;
}

-- no price is above `limit`
pub record HasLowPrices (u p q : List ℕ) (limit : ℕ) : Type 0 where
  pub sources : (i : ℕ) → i < length u → slice_index u i ≤ limit
  pub servers : (j : ℕ) → j < length p → slice_index p j ≤ limit
  pub hosts : (h : ℕ) → h < length q → slice_index q h ≤ limit
