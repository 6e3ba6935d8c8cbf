-- The ways that a node offers, along its arcs and against them.
use Rattle.std.proofs.Common.{◌≡◌, ℕ, ◌+◌, ◌<◌, ◌≤◌, Bool, true, false, length, slice_index, Option, if◌then◌else◌}
use Rattle.std.proofs.Common.{arith}
use Rattle.hsp_network.specs.Residual.{Flow, Arcs, SearchTree, from, gives, prices, takes, to}
use Rattle.hsp_network.specs.Search.{Expanding, IsApart, IsWay, Offer, Offered, Priced, Visit}
use Rattle.hsp_network.proofs.Directions.{to_in}
use Rattle.hsp_network.proofs.Arrival.{priced_offered}

-- prices stay within bounds at the node that is looked at
pub apart_here : (n : Arcs) (f : Flow) (t : SearchTree) (held : ℕ → Option ℕ) (at : Visit) (seen : ℕ → Bool → Type 0)
    (up down : ℕ) →
    Expanding n f t held at seen → Priced n f t at.root up down → IsApart f at.root at.node at.distance up down
apart_here n f t held at seen up down e p = rw e.here at (p.apart at.node e.node_in e.settled.reached)

-- over an arc they come to lie no farther apart than by its cost, the one way along an arc, the other way back
apart_end : (n : Arcs) (f : Flow) (root k : ℕ) (d : Bool) (cost up down far near : ℕ) → slice_index n.costs.now k ≤ cost
    → IsApart f root (from n k d) far up down →
    near + gives n (prices f) k d ≡ far + takes n (prices f) k d
    → IsApart f root (to n k d) near (up + (if d then cost else 0)) (down + (if d then 0 else cost))
apart_end n f root k true cost up down far near dear apart sum = (omega (arith, apart.0), omega (arith, apart.1))
apart_end n f root k false cost up down far near dear apart sum = (omega (arith, apart.0), omega (arith, apart.1))

-- the offer of a way over a residual arc that leaves the node that is settled
pub widens : (n : Arcs) (f : Flow) (t : SearchTree) (held : ℕ → Option ℕ) (at : Visit) (seen : ℕ → Bool → Type 0)
    (e : Expanding n f t held at seen)
    (k : ℕ) (d : Bool) (arc : k < length n.tails.now) (leaves : from n k d ≡ at.node) (o : Offer)
    (way : IsWay n f t at k d o)
    (t' : SearchTree) (held' : ℕ → Option ℕ) (it : Offered held held' t t' o) (cost up down : ℕ)
    → slice_index n.costs.now k ≤ cost → IsApart f at.root at.node at.distance up down →
    Priced n f t at.root (up + (if d then cost else 0)) (down + (if d then 0 else cost)) →
    Priced n f t' at.root (up + (if d then cost else 0)) (down + (if d then 0 else cost))
widens n f t held at seen e k d arc leaves o way t' held' it cost up down dear apart p =
    let to-in : o.to < length t.distance.now =
    rw way.enters (omega (arith, e.search.covers.distances_many, to_in n k d arc)) in
    priced_offered n f t t' held held' o at.root _ _ to-in it p
    (rw way.enters (apart_end n f at.root k d cost up down at.distance o.distance dear (rw leaves apart) way.exact))
