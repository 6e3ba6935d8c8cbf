-- Short sets: rows that ask for more than all that they can reach takes (a cut, Network Flows, section 6.7).
use Rattle.std.specs.Prelude.{ℕ, Bool, List, length, filter}
use Rattle.std.specs.List.{range_with_len}
use Rattle.hsp_check.specs.Network.{Network, transport}
use Rattle.hsp_transport.specs.Cut as cuts

-- whether some row of the set may use the server
abbrev pub reaches : Network → (ℕ → Bool) → ℕ → Bool
reaches n rows j = cuts.reaches (transport n) rows j

-- the servers that some row of the set may use, in ascending order
abbrev pub reached : Network → (ℕ → Bool) → List ℕ
reached n rows = filter (reaches n rows) (range_with_len 0 (length n.capacities))

-- what the rows of the set ask for
abbrev pub demand_of : Network → (ℕ → Bool) → ℕ
demand_of n rows = cuts.demand_of (transport n) rows

-- what the servers that the rows of the set may use can take, each once, and those of a host no more than its limit
abbrev pub capacity_of : Network → (ℕ → Bool) → ℕ
capacity_of n rows = cuts.capacity_of (transport n) rows

-- The rows of the set ask for more than that.
abbrev pub IsShort : Network → (ℕ → Bool) → Type 0
IsShort n rows = cuts.IsShort (transport n) rows
