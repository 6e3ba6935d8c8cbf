-- Shortages by a set of servers: the rows that can go nowhere else ask for more than the set takes (a cut, Network
-- Flows, section 6.7). So a shortage of rows of any number is named by at most as many numbers as there are servers,
-- and one pass adds up what is asked.
use Rattle.std.specs.Prelude.{ℕ, ◌+◌, ◌<◌, ◌==◌, ◌&&◌, Bool, not, length, slice_index, is_none, min, if◌then◌else◌}
use Rattle.std.specs.List.{list_any}
use Rattle.hsp_check.specs.Network.{Network, IsNetwork}
use Rattle.hsp_check.specs.Plan.{Plan, Feasible, on_host}
use Rattle.hsp_check.specs.Short.{IsShort, demand_of, reaches}
use Rattle.hsp_transport.specs.Sums.{sum_below}

-- each arc of the row leads into the set
abbrev pub is_caught : Network → (ℕ → Bool) → ℕ → Bool
is_caught n servers i = not (list_any (λ a. a.row == i && not (servers a.server)) n.arcs)

-- the capacity of a server of the set
abbrev pub capacity_in : Network → (ℕ → Bool) → ℕ → ℕ
capacity_in n servers j = if servers j then slice_index n.capacities j else 0

-- what the servers of the set take, those on a host no more than its limit
abbrev pub capacity_of_servers : Network → (ℕ → Bool) → ℕ
capacity_of_servers n servers =
    sum_below (length n.capacities) (λ j. if is_none (n.host_of j) then capacity_in n servers j else 0)
    + sum_below (length n.limits) (λ h. min (slice_index n.limits h) (on_host n (capacity_in n servers) h))

-- the rows that it catches ask for more
abbrev pub AreShort : Network → (ℕ → Bool) → Type 0
AreShort n servers = capacity_of_servers n servers < demand_of n (is_caught n servers)

-- the rows that a short set of servers catches are a short set; and the servers that a short set of rows reaches are
-- short
pub record ShortSetsAreOfServers (n : Network) : Type 0 where
  pub of_servers : (servers : ℕ → Bool) → AreShort n servers → IsShort n (is_caught n servers)
  pub of_rows : (rows : ℕ → Bool) → IsShort n rows → AreShort n (reaches n rows)

abbrev pub ServersShowShortages : Type 0
ServersShowShortages = (n : Network) → ShortSetsAreOfServers n

-- so no plan is feasible
abbrev pub ShortServersShowNone : Type 0
ShortServersShowNone =
    (n : Network) (servers : ℕ → Bool) → IsNetwork n → AreShort n servers → (x : Plan) → Feasible n x → ⊥
