-- A search for the sink by Dijkstra's algorithm over reduced costs (Network Flows, sections 4.5 and 9.7), in the middle
-- of its work.
use Rattle.std.specs.Prelude.{◌≡◌, ◌≢◌, ℕ, ◌+◌, ◌*◌, ◌<◌, ◌≤◌, ◌&&◌, Bool, true, false, length, slice_index, slice_set}
use Rattle.std.specs.Prelude.{Option, Some, None, is_none, min, nat_lt, if◌then◌else◌}
use Rattle.hsp_network.specs.Sums.{sum_below}
use Rattle.hsp_network.specs.Frontier.{Changes}
use Rattle.hsp_network.specs.Residual.{AreRelaxed, Flow, IsOnPath, Arcs, SearchTree, Sound, distance, from}
use Rattle.hsp_network.specs.Residual.{gives, nodes, predecessor, prices, takes, to, way, width}
pub use Rattle.hsp_network.specs.declared.arcs.Visit.{Visit}
pub use Rattle.hsp_network.specs.declared.arcs.Ways.{Ways}
pub use Rattle.hsp_network.specs.declared.arcs.Offer.{Offer}

-- the distance of a node that was not reached
abbrev pub top : ℕ
top = 18446744073709551615

-- sound, and no price above the limit
pub record Ready (n : Arcs) (f : Flow) : Type 0 where
  pub sound : Sound n f (λ v. slice_index f.price.now v)
  pub price_many : length f.price.now ≡ nodes n
  pub low : (v : ℕ) → v < nodes n → slice_index f.price.now v ≤ n.price_bound

-- an entry for each node
pub record Covers (n : Arcs) (t : SearchTree) : Type 0 where
  pub distances_many : length t.distance.now ≡ nodes n
  pub predecessors_many : length t.predecessor.now ≡ nodes n
  pub amounts_many : length t.amount.now ≡ nodes n
  pub depths_many : length t.depth.now ≡ nodes n

-- no node was reached
pub record Blank (n : Arcs) (t : SearchTree) : Type 0 where
  pub covers : Covers n t
  pub none : (v : ℕ) → v < length t.distance.now → distance t v ≡ top

-- the node was reached, and doesn't wait any more
pub record Settled (held : ℕ → Option ℕ) (t : SearchTree) (v : ℕ) : Type 0 where
  pub not_held : held v ≡ None
  pub reached : distance t v < top

-- the residual arc by which the search came to the node v, from a node whose distance can't fall any more
pub record Reached (n : Arcs) (f : Flow) (t : SearchTree) (now v : ℕ) (d : Bool) : Type 0 where
  pub path : IsOnPath n f t v d
  pub soon : distance t (predecessor n t v d) ≤ now
  pub exact : distance t v + gives n (prices f) (slice_index t.predecessor.now v) d
      ≡ distance t (predecessor n t v d) + takes n (prices f) (slice_index t.predecessor.now v) d

-- the end of a residual arc was reached, and is no farther than by the arc
pub record IsRelaxed (n : Arcs) (f : Flow) (t : SearchTree) (k : ℕ) (d : Bool) : Type 0 where
  pub no_farther : distance t (to n k d) + gives n (prices f) k d ≤ distance t (from n k d) + takes n (prices f) k d
  pub reached : distance t (to n k d) < top

-- the labels of nodes in the middle of a search; `now` is the distance of the node that was settled last
pub record Labels (n : Arcs) (f : Flow) (t : SearchTree) (held : ℕ → Option ℕ) (root now : ℕ) : Type 0 where
  pub covers : Covers n t
  pub held_in : (v d : ℕ) → held v ≡ Some d → v < nodes n
  pub held_distance : (v d : ℕ) → held v ≡ Some d → distance t v ≡ d
  pub held_late : (v d : ℕ) → held v ≡ Some d → now ≤ d
  pub held_low : (v d : ℕ) → held v ≡ Some d → d < top
  pub settled_early : (v : ℕ) → Settled held t v → distance t v ≤ now
  pub sink_waits : Settled held t 0 → ⊥
  pub reached : (v : ℕ) → v < nodes n → v ≢ root → distance t v < top → Reached n f t now v (way n t v)
  pub root_near : distance t root < top
  pub some : (v : ℕ) → v < nodes n → distance t v < top → 0 < slice_index t.amount.now v
  pub no_more : (v : ℕ) → v < nodes n → distance t v < top → slice_index t.amount.now v ≤ slice_index f.excess.now root

-- and the residual arcs of settled nodes are relaxed where they were `looked` at
pub record Search (n : Arcs) (f : Flow) (t : SearchTree) (held : ℕ → Option ℕ) (root now : ℕ)
    (looked : ℕ → Bool → Type 0) : Type 0 where
  pub labels : Labels n f t held root now
  pub open labels use *
  pub relaxed : (k : ℕ) (d : Bool) → k < length n.tails.now → 0 < width f k d → Settled held t (from n k d)
      → looked k d → IsRelaxed n f t k d

-- the search is over: no residual arc leads out of what it reached, and the sink is not among it
pub record Closed (n : Arcs) (f : Flow) (t : SearchTree) (root : ℕ) : Type 0 where
  pub root_in : distance t root < top
  pub sink_out : top ≤ distance t 0
  pub out : (k : ℕ) (d : Bool) → k < length n.tails.now → 0 < width f k d → distance t (from n k d) < top
      → distance t (to n k d) < top

-- the offer of the way over a residual arc that leaves the node that is settled
pub record IsWay (n : Arcs) (f : Flow) (t : SearchTree) (at : Visit) (k : ℕ) (d : Bool) (o : Offer) : Type 0 where
  pub over : o.arc ≡ k
  pub start : o.from ≡ at.node
  pub enters : o.to ≡ to n k d
  pub exact : o.distance + gives n (prices f) k d ≡ at.distance + takes n (prices f) k d
  pub amount : o.amount ≡ min (slice_index t.amount.now at.node) (width f k d)

-- what a search knows of the node that is offered a way lets it take it: it waits, unless it was not reached or is no
-- farther
pub record MayBeOffered (held : ℕ → Option ℕ) (t : SearchTree) (o : Offer) : Type 0 where
  pub from_in : o.from < length t.distance.now
  pub to_in : o.to < length t.distance.now
  pub predecessors_many : length t.predecessor.now ≡ length t.distance.now
  pub amounts_many : length t.amount.now ≡ length t.distance.now
  pub depths_many : length t.depth.now ≡ length t.distance.now
  pub shallow : slice_index t.depth.now o.from + 1 < 18446744073709551616
  pub free : distance t o.to ≡ top → held o.to ≡ None
  pub waits : o.distance < distance t o.to → distance t o.to < top → held o.to ≡ Some (distance t o.to)

-- the source `root` lacks something, and a search from it didn't come to the sink
pub record Stuck (n : Arcs) (f : Flow) (t : SearchTree) (root : ℕ) : Type 0 where
  pub many : length t.distance.now ≡ nodes n
  pub closed : Closed n f t root
  pub excess : 0 < slice_index f.excess.now root

-- some source is so
pub record HasStuckSource (n : Arcs) (f : Flow) (t : SearchTree) : Type 0 where
  pub root : ℕ
  pub from : n.first ≤ root
  pub inside : root < nodes n
  pub stuck : Stuck n f t root

-- no source lacks anything
abbrev pub AreAllMet : Arcs → Flow → Type 0
AreAllMet n f = (v : ℕ) → n.first ≤ v → v < nodes n → slice_index f.excess.now v ≡ 0

-- what the other sources lack is as before
abbrev pub LeavesOthers : Flow → Flow → ℕ → Type 0
LeavesOthers f f' root = (v : ℕ) → v ≢ root → slice_index f'.excess.now v ≡ slice_index f.excess.now v

-- the node takes the way that it was offered
pub record TakesWay (held held' : ℕ → Option ℕ) (t t' : SearchTree) (o : Offer) : Type 0 where
  pub frontier : Changes held held' o.to (Some o.distance)
  pub distance : t'.distance.now ≡ slice_set t.distance.now o.to o.distance
  pub predecessor : t'.predecessor.now ≡ slice_set t.predecessor.now o.to o.arc
  pub amount : t'.amount.now ≡ slice_set t.amount.now o.to o.amount
  pub depth : t'.depth.now ≡ slice_set t.depth.now o.to (slice_index t.depth.now o.from + 1)

-- a node was offered a way, and took it where it is shorter
pub record Offered (held held' : ℕ → Option ℕ) (t t' : SearchTree) (o : Offer) : Type 0 where
  pub kept : distance t o.to ≤ o.distance → (held' ≡ held) × (t' ≡ t)
  pub took : o.distance < distance t o.to → TakesWay held held' t t' o

-- whether the node is settled
abbrev pub settled_test : (ℕ → Option ℕ) → SearchTree → ℕ → Bool
settled_test held t v = is_none (held v) && nat_lt (slice_index t.distance.now v) top

-- how many nodes are settled
abbrev pub settled_count : Arcs → (ℕ → Option ℕ) → SearchTree → ℕ
settled_count n held t = sum_below (nodes n) (λ v. if settled_test held t v then 1 else 0)

-- at least `turn` nodes are settled, and no reached node is deeper than that
pub record Counted (n : Arcs) (t : SearchTree) (held : ℕ → Option ℕ) (turn : ℕ) : Type 0 where
  pub settled : turn ≤ settled_count n held t
  pub depth_low : (v : ℕ) → v < nodes n → distance t v < top → slice_index t.depth.now v ≤ turn

-- the node is settled in its turn
pub record IsVisited (n : Arcs) (t : SearchTree) (held : ℕ → Option ℕ) (at : Visit) : Type 0 where
  pub settled : Settled held t at.node
  pub here : distance t at.node ≡ at.distance
  pub node_in : at.node < nodes n
  pub shallow : slice_index t.depth.now at.node < at.turn + 1
  pub counted : Counted n t held (at.turn + 1)

-- and those of its residual arcs which were `seen` are relaxed
pub record Expanding (n : Arcs) (f : Flow) (t : SearchTree) (held : ℕ → Option ℕ) (at : Visit)
    (seen : ℕ → Bool → Type 0) : Type 0 where
  pub visit : IsVisited n t held at
  pub open visit use *
  pub search : Search n f t held at.root at.distance (λ k d. from n k d ≡ at.node → seen k d)

-- the ways along arcs are looked at first: which arcs were, before those of a direction are, and once they are
abbrev pub Earlier : Bool → ℕ → Bool → Type 0
Earlier along k d = (along ≡ false) × (d ≡ true)

abbrev pub Looked : Bool → ℕ → Bool → Type 0
Looked along k d = along ≡ true → d ≡ true

-- only the root is held
pub record Begun (t : SearchTree) (held : ℕ → Option ℕ) (root amount : ℕ) : Type 0 where
  pub held_root : held root ≡ Some 0
  pub held_rest : (v : ℕ) → v ≢ root → held v ≡ None
  pub distance_root : distance t root ≡ 0
  pub distance_rest : (v : ℕ) → v < length t.distance.now → v ≢ root → distance t v ≡ top
  pub amount_root : slice_index t.amount.now root ≡ amount
  pub depth_root : slice_index t.depth.now root ≡ 0

-- between two turns of the search
pub record Running (n : Arcs) (f : Flow) (t : SearchTree) (held : ℕ → Option ℕ) (root turn : ℕ) : Type 0 where
  pub now : ℕ
  pub search : Search n f t held root now (λ _ _. Unit {0})
  pub counted : Counted n t held turn

-- the search came to the sink: no residual arc undercuts the distance of a node that is nearer
pub record Found (n : Arcs) (f : Flow) (t : SearchTree) (root : ℕ) : Type 0 where
  pub held : ℕ → Option ℕ
  pub now : ℕ
  pub search : Search n f t held root now (λ _ _. ⊥)
  pub sink_in : 0 < nodes n
  pub sink_near : distance t 0 < top
  pub relaxed : AreRelaxed n f t

-- a node's price and a distance d lie apart by `up` at most the one way, by `down` the other
abbrev pub IsApart : Flow → ℕ → ℕ → ℕ → ℕ → ℕ → Type 0
IsApart f root v d up down = (d + prices f root ≤ prices f v + up) × (prices f v ≤ d + prices f root + down)

-- so do the prices and distances of all that was reached
pub record Priced (n : Arcs) (f : Flow) (t : SearchTree) (root up down : ℕ) : Type 0 where
  pub apart : (v : ℕ) → v < nodes n → distance t v < top → IsApart f root v (distance t v) up down

-- the same, with no more in all than the greatest cost for each turn
pub record Spread (n : Arcs) (f : Flow) (t : SearchTree) (root turn : ℕ) : Type 0 where
  pub up : ℕ
  pub down : ℕ
  pub within : up + down ≤ turn * n.greatest_cost
  pub priced : Priced n f t root up down

-- ways over the arcs that leave the node that is settled let prices and distances lie farther apart by their greatest
-- cost the one way, ways back over those that enter it the other way
abbrev pub Widens : Arcs → Flow → SearchTree → SearchTree → Ways → Type 0
Widens n f t t' w = (cost up down : ℕ) →
    ((k : ℕ) → k < length n.tails.now → from n k w.along ≡ w.at.node → slice_index n.costs.now k ≤ cost) →
    Priced n f t w.at.root up down →
    Priced n f t' w.at.root (up + (if w.along then cost else 0)) (down + (if w.along then 0 else cost))
