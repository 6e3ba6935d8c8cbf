-- A network of some of the arcs of another: what its plans, its prices and its short sets show of the whole. A search
-- may hold back arcs of rows of which there are too many, if its end shows that none of them matters.
use Rattle.std.specs.Prelude.{◌≡◌, true, ℕ, Bool, List, All, filter}
use Rattle.hsp_check.specs.Network.{Network, IsNetwork}
use Rattle.hsp_check.specs.Plan.{Plan, Best, Feasible, total}
use Rattle.hsp_check.specs.Prices.{Prices}
use Rattle.hsp_check.specs.Short.{IsShort, reaches}
use Rattle.hsp_prices.specs.Bounds.{HasNoNegativeReducedCost}

-- the network of the arcs to the sites that their rows keep
abbrev pub kept : Network → (ℕ → ℕ → Bool) → Network
kept n keep = record {
  demands = n.demands;
  capacities = n.capacities;
  limits = n.limits;
  host_of = n.host_of;
  arcs = filter (λ a. keep a.row a.site) n.arcs;
}

-- a plan over the kept arcs with its prices is best over all arcs, where no reduced cost of any arc is negative
abbrev pub KeptPlansAreBest : Type 0
KeptPlansAreBest =
    (n : Network) (keep : ℕ → ℕ → Bool) (x : Plan) (u p q : List ℕ) → IsNetwork n → Feasible (kept n keep) x
    → Prices (kept n keep) x u p q → HasNoNegativeReducedCost n 1 u p q →
    Best n x × (total n x ≡ total (kept n keep) x)

-- rows that are short over the kept arcs are short over all arcs, where none of their arcs leads elsewhere
abbrev pub KeptShortSetsAreShort : Type 0
KeptShortSetsAreShort =
    (n : Network) (keep : ℕ → ℕ → Bool) (rows : ℕ → Bool) → IsShort (kept n keep) rows
    → All (λ a. rows a.row ≡ true → reaches (kept n keep) rows a.server ≡ true) n.arcs → IsShort n rows
