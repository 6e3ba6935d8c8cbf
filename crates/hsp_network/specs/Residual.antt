-- The residual network of a flow (Network Flows, section 2.4), its potentials (section 9.3), and a shortest path tree
-- in it. Arc k leads from the node `tails[k]` to the node `heads[k]`; node 0 is the sink. A residual arc is an arc with
-- a direction: `true` along the arc, over what is left of its capacity, `false` against it, over what flows on it.
use Rattle.std.specs.Prelude.{◌≡◌, ◌≢◌, ℕ, ◌+◌, ◌-◌, ◌<◌, ◌≤◌, ◌==◌, Bool, true, false, List, length, slice_index}
use Rattle.hsp_network.specs.Sums.{only}
use Rattle.hsp_network.specs.Through.{through}
pub use Rattle.hsp_network.specs.declared.arcs.Arcs.{Arcs}
pub use Rattle.hsp_network.specs.declared.arcs.Flow.{Flow}
pub use Rattle.hsp_network.specs.declared.arcs.SearchTree.{SearchTree}

-- the number of nodes
abbrev pub nodes : Arcs → ℕ
nodes n = length n.supplies.now

-- the price of a node, which stands for its potential
abbrev pub prices : Flow → ℕ → ℕ
prices f v = slice_index f.price.now v

-- the distance of a node from the root of a search
abbrev pub distance : SearchTree → ℕ → ℕ
distance t v = slice_index t.distance.now v

-- the ends of arcs by which residual arcs leave: tails along arcs, heads against them
abbrev pub ends : Arcs → Bool → List ℕ
ends n true = n.tails.now
ends n false = n.heads.now

-- the node that a residual arc leaves
abbrev pub from : Arcs → ℕ → Bool → ℕ
from n k d = slice_index (ends n d) k

-- the node that it enters
abbrev pub to : Arcs → ℕ → Bool → ℕ
to n k true = slice_index n.heads.now k
to n k false = slice_index n.tails.now k

-- the residual capacity of an arc
abbrev pub width : Flow → ℕ → Bool → ℕ
width f k true = slice_index f.residual_capacity.now k
width f k false = slice_index f.flows.now k

-- an arc's reduced cost is `takes` less `gives`
abbrev pub gives : Arcs → (ℕ → ℕ) → ℕ → Bool → ℕ
gives n price k true = price (slice_index n.tails.now k)
gives n price k false = slice_index n.costs.now k + price (slice_index n.heads.now k)

abbrev pub takes : Arcs → (ℕ → ℕ) → ℕ → Bool → ℕ
takes n price k true = slice_index n.costs.now k + price (slice_index n.heads.now k)
takes n price k false = price (slice_index n.tails.now k)

-- no residual arc has a negative reduced cost
abbrev pub AreOptimal : Arcs → Flow → (ℕ → ℕ) → Type 0
AreOptimal n f price =
    (k : ℕ) (d : Bool) → k < length n.tails.now → 0 < width f k d → gives n price k d ≤ takes n price k d

-- what flows on an arc and its residual capacity are its capacity
abbrev pub IsBalanced : Arcs → Flow → ℕ → Type 0
IsBalanced n f k = slice_index f.flows.now k + slice_index f.residual_capacity.now k ≡ slice_index n.capacities.now k

-- a flow within the capacities that is conserved at each node but the sink
pub record IsConserved (n : Arcs) (f : Flow) : Type 0 where
  pub flows_many : length f.flows.now ≡ length n.tails.now
  pub residual_many : length f.residual_capacity.now ≡ length n.tails.now
  pub excess_many : length f.excess.now ≡ nodes n
  pub balanced : (k : ℕ) → k < length n.tails.now → IsBalanced n f k
  pub conserved : (v : ℕ) → v < nodes n → v ≢ 0 →
      through n.tails.now f.flows.now v + slice_index f.excess.now v
      ≡ through n.heads.now f.flows.now v + slice_index n.supplies.now v
  pub within : (v : ℕ) → v < nodes n → slice_index f.excess.now v ≤ slice_index n.supplies.now v

-- with prices at which no residual arc has a negative reduced cost
pub record Sound (n : Arcs) (f : Flow) (price : ℕ → ℕ) : Type 0 where
  pub flow : IsConserved n f
  pub open flow use *
  pub paid : AreOptimal n f price
  pub sink_free : price 0 ≡ 0

-- distances that no residual arc undercuts, below the sink's
abbrev pub AreRelaxed : Arcs → Flow → SearchTree → Type 0
AreRelaxed n f t =
    (k : ℕ) (d : Bool) → k < length n.tails.now → 0 < width f k d → distance t (from n k d) < distance t 0 →
    distance t (to n k d) + gives n (prices f) k d ≤ distance t (from n k d) + takes n (prices f) k d

-- the prices after a search: each raised by what the node's distance lacks to the sink's
abbrev pub raised : Flow → SearchTree → ℕ → ℕ
raised f t v = prices f v + (distance t 0 - distance t v)

-- the direction of the tree's arc to the node v
abbrev pub way : Arcs → SearchTree → ℕ → Bool
way n t v = slice_index n.heads.now (slice_index t.predecessor.now v) == v

-- the node before v on its path from the root
abbrev pub predecessor : Arcs → SearchTree → ℕ → Bool → ℕ
predecessor n t v d = from n (slice_index t.predecessor.now v) d

-- an arc by which the node v can be sent what the node before it can
pub record IsOnPath (n : Arcs) (f : Flow) (t : SearchTree) (v : ℕ) (d : Bool) : Type 0 where
  pub arc : slice_index t.predecessor.now v < length n.tails.now
  pub end : to n (slice_index t.predecessor.now v) d ≡ v
  pub nearer : slice_index t.depth.now (predecessor n t v d) < slice_index t.depth.now v
  pub carried : slice_index t.amount.now v ≤ slice_index t.amount.now (predecessor n t v d)
  pub fits : slice_index t.amount.now v ≤ width f (slice_index t.predecessor.now v) d

-- the tree's arc to the node v has the reduced cost 0
pub record TreeArc (n : Arcs) (f : Flow) (t : SearchTree) (price : ℕ → ℕ) (v : ℕ) (d : Bool) : Type 0 where
  pub path : IsOnPath n f t v d
  pub sooner : distance t (predecessor n t v d) ≤ distance t v
  pub tight : gives n price (slice_index t.predecessor.now v) d ≡ takes n price (slice_index t.predecessor.now v) d

-- a tree from the root to all nodes that are no farther than the sink
pub record IsTree (n : Arcs) (f : Flow) (t : SearchTree) (root : ℕ) (price : ℕ → ℕ) : Type 0 where
  pub predecessors_many : length t.predecessor.now ≡ nodes n
  pub arc : (v : ℕ) → v < nodes n → v ≢ root → distance t v ≤ distance t 0 → TreeArc n f t price v (way n t v)

-- on the way back from the sink: `amount` flows from the node `at` on, and not yet from the root to it
pub record Walk (n : Arcs) (f : Flow) (t : SearchTree) (price : ℕ → ℕ) (root amount at : ℕ) : Type 0 where
  pub flows_many : length f.flows.now ≡ length n.tails.now
  pub residual_many : length f.residual_capacity.now ≡ length n.tails.now
  pub at_in : at < nodes n
  pub near : distance t at ≤ distance t 0
  pub ready : amount ≤ slice_index t.amount.now at
  pub balanced : (k : ℕ) → k < length n.tails.now → IsBalanced n f k
  pub pending : (v : ℕ) → v < nodes n → v ≢ 0 →
      through n.tails.now f.flows.now v + slice_index f.excess.now v + only root v amount
      ≡ through n.heads.now f.flows.now v + slice_index n.supplies.now v + only at v amount
  pub paid : AreOptimal n f price
  pub fits : (v : ℕ) → v < nodes n → v ≢ root → distance t v ≤ distance t 0
      → slice_index t.depth.now v ≤ slice_index t.depth.now at →
      slice_index t.amount.now v ≤ width f (slice_index t.predecessor.now v) (way n t v)

-- `amount` was sent over the residual arc of the arc k, and nothing else is changed
pub record Pushes (n : Arcs) (f f' : Flow) (k : ℕ) (d : Bool) (amount : ℕ) : Type 0 where
  pub flows_many : length f'.flows.now ≡ length f.flows.now
  pub residual_many : length f'.residual_capacity.now ≡ length f.residual_capacity.now
  pub sum : slice_index f'.flows.now k + slice_index f'.residual_capacity.now k
      ≡ slice_index f.flows.now k + slice_index f.residual_capacity.now k
  pub less : width f' k d + amount ≡ width f k d
  pub flows_same : (j : ℕ) → j ≢ k → slice_index f'.flows.now j ≡ slice_index f.flows.now j
  pub residual_same : (j : ℕ) → j ≢ k → slice_index f'.residual_capacity.now j ≡ slice_index f.residual_capacity.now j
  pub moved : (v : ℕ)
      → through n.tails.now f'.flows.now v + through n.heads.now f.flows.now v + only (to n k d) v amount
      ≡ through n.tails.now f.flows.now v + through n.heads.now f'.flows.now v + only (from n k d) v amount
  pub price : f'.price.now ≡ f.price.now
  pub excess : f'.excess.now ≡ f.excess.now
