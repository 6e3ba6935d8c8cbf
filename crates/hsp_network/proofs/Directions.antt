-- The two directions of an arc.
use Rattle.std.proofs.Common.{◌≡◌, ℕ, ◌+◌, ◌-◌, ◌<◌, ◌==◌, Bool, true, false, length, slice_index, refl, arith, eq-eqb}
use Rattle.std.proofs.Common.{ne_eqb}
use Rattle.hsp_network.specs.Residual.{Flow, Arcs, SearchTree, distance, from, gives, nodes, prices, raised}
use Rattle.hsp_network.specs.Residual.{takes, to}

-- both ends are nodes
pub from_in : (n : Arcs) (k : ℕ) (d : Bool) → k < length n.tails.now → from n k d < nodes n
from_in n k true l = n.graph.tails_in k l
from_in n k false l = omega (arith, n.graph.tails_in k l, n.graph.down k l)

-- each direction of an arc leads to a node
pub to_in : (n : Arcs) (k : ℕ) (d : Bool) → k < length n.tails.now → to n k d < nodes n
to_in n k true l = omega (arith, n.graph.tails_in k l, n.graph.down k l)
to_in n k false l = n.graph.tails_in k l

-- the end tells the direction
pub direction : (n : Arcs) (k : ℕ) (d : Bool) (v : ℕ) → k < length n.tails.now → to n k d ≡ v
    → (slice_index n.heads.now k == v) ≡ d
direction n k true v l e = eq-eqb (slice_index n.heads.now k) v e
direction n k false v l e = ne_eqb (slice_index n.heads.now k) v (λ q. omega (arith, n.graph.down k l))

-- what raised prices do to a reduced cost
pub gives_raised : (n : Arcs) (f : Flow) (t : SearchTree) (k : ℕ) (d : Bool) →
    gives n (raised f t) k d ≡ gives n (prices f) k d + (distance t 0 - distance t (from n k d))
gives_raised n f t k true = refl
gives_raised n f t k false = omega arith

-- a raised price changes what a direction takes by how near its end is
pub takes_raised : (n : Arcs) (f : Flow) (t : SearchTree) (k : ℕ) (d : Bool) →
    takes n (raised f t) k d ≡ takes n (prices f) k d + (distance t 0 - distance t (to n k d))
takes_raised n f t k true = omega arith
takes_raised n f t k false = refl
