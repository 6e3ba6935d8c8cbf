-- Flows through a network: what flows on each arc (Network Flows, sections 1.2 and 9.1).
use Rattle.std.specs.Prelude.{◌≡◌, ℕ, ◌*◌, ◌<◌, ◌≤◌, ◌==◌, length, sum_by, slice_index, if◌then◌else◌}
use Rattle.hsp_transport.specs.Network.{Network}
use Rattle.hsp_transport.specs.Sums.{sum_below}
pub use Rattle.hsp_transport.specs.Lists.{is_on}

-- what the source sends, over all arcs that leave it
abbrev pub sent : {A : Type 0} → Network A → (A → ℕ) → ℕ → ℕ
sent n flow i = sum_by (λ a. if n.source a == i then flow a else 0) n.arcs

-- what the server takes, over all arcs that enter it
abbrev pub load : {A : Type 0} → Network A → (A → ℕ) → ℕ → ℕ
load n flow j = sum_by (λ a. if n.server a == j then flow a else 0) n.arcs

-- numbers of the servers on a host, added up
abbrev pub on_host : {A : Type 0} → Network A → (ℕ → ℕ) → ℕ → ℕ
on_host n f h = sum_below (length n.capacities) (λ j. if is_on (n.host_of j) h then f j else 0)

-- what the servers on a host take together
abbrev pub host_load : {A : Type 0} → Network A → (A → ℕ) → ℕ → ℕ
host_load n flow h = on_host n (load n flow) h

-- what the flow costs
abbrev pub total_cost : {A : Type 0} → Network A → (A → ℕ) → ℕ
total_cost n flow = sum_by (λ a. n.cost a * flow a) n.arcs

-- each source sends what it demands, and no server and no host takes more than it can
pub record IsFeasible {A : Type 0} (n : Network A) (flow : A → ℕ) : Type 0 where
  pub met : (i : ℕ) → i < length n.demands → sent n flow i ≡ slice_index n.demands i
  pub within : (j : ℕ) → j < length n.capacities → load n flow j ≤ slice_index n.capacities j
  pub hosted : (h : ℕ) → h < length n.limits → host_load n flow h ≤ slice_index n.limits h
