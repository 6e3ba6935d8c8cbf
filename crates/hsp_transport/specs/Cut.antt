-- Cuts: sources that demand more than all that they can reach takes (Network Flows, section 6.7).
use Rattle.std.specs.Prelude.{ℕ, ◌+◌, ◌<◌, ◌==◌, ◌&&◌, Bool, length, slice_index, is_none, min, if◌then◌else◌}
use Rattle.std.specs.List.{list_any}
use Rattle.hsp_transport.specs.Network.{Network}
use Rattle.hsp_transport.specs.Flow.{on_host}
use Rattle.hsp_transport.specs.Sums.{sum_below}

-- whether some source of the set may use the server
abbrev pub reaches : {A : Type 0} → Network A → (ℕ → Bool) → ℕ → Bool
reaches n set j = list_any (λ a. set (n.source a) && n.server a == j) n.arcs

-- what the sources of the set demand
abbrev pub demand_of : {A : Type 0} → Network A → (ℕ → Bool) → ℕ
demand_of n set = sum_below (length n.demands) (λ i. if set i then slice_index n.demands i else 0)

-- the capacity of a server that some source of the set may use
abbrev pub reached_capacity : {A : Type 0} → Network A → (ℕ → Bool) → ℕ → ℕ
reached_capacity n set j = if reaches n set j then slice_index n.capacities j else 0

-- what the servers that the set may use can take, each once: each by itself that stands on no host, and for each host
-- the smaller of its limit and the sum of its servers
abbrev pub capacity_of : {A : Type 0} → Network A → (ℕ → Bool) → ℕ
capacity_of n set =
    sum_below (length n.capacities) (λ j. if is_none (n.host_of j) then reached_capacity n set j else 0)
    + sum_below (length n.limits) (λ h. min (slice_index n.limits h) (on_host n (reached_capacity n set) h))

-- the set demands more than that
abbrev pub IsShort : {A : Type 0} → Network A → (ℕ → Bool) → Type 0
IsShort n set = capacity_of n set < demand_of n set
