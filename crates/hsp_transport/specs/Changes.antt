-- Networks that differ in their numbers only, and what prices of the one say of flows through the other (Network Flows,
-- section 9.3).
use Rattle.std.specs.Prelude.{◌≡◌, ℕ, ◌+◌, ◌<◌, ◌==◌, List, length, slice_index, if◌then◌else◌}
use Rattle.hsp_transport.specs.Network.{Network}

-- the same arcs and hosts with other demands, capacities and limits
abbrev pub with_numbers : {A : Type 0} → Network A → List ℕ → List ℕ → List ℕ → Network A
with_numbers n demands capacities limits = record {
  demands = demands;
  capacities = capacities;
  limits = limits;
  host_of = n.host_of;
  arcs = n.arcs;
  source = n.source;
  server = n.server;
  cost = n.cost;
}

-- the numbers differ at one place only, where the second are greater by k
pub record IsMoreAt (j k : ℕ) (numbers others : List ℕ) : Type 0 where
  pub there : j < length numbers
  pub many : length others ≡ length numbers
  pub more : (i : ℕ) → i < length numbers → slice_index others i ≡ slice_index numbers i + (if i == j then k else 0)
