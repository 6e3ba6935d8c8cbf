-- After a search that came to the sink: its tree is tight under the raised prices, and the prices stay within bounds.
use Rattle.std.proofs.Common.{◌≡◌, ℕ, ◌+◌, ◌<◌, ◌≤◌, inl, inr, length, slice_index, Option, ap, arith, add-mul}
use Rattle.std.proofs.Common.{mul-le-mul_right}
use Rattle.std.proofs.lemmas.Bool.{cases_eq, cases_lt}
use Rattle.hsp_network.specs.Residual.{Flow, IsTree, Arcs, SearchTree, Sound, distance, nodes, predecessor}
use Rattle.hsp_network.specs.Residual.{prices, raised, to, way, width}
use Rattle.hsp_network.specs.Search.{Begun, Found, IsApart, Offer, Offered, Priced, Spread, top}
use Rattle.hsp_network.proofs.Directions.{gives_raised, takes_raised}
use Rattle.hsp_network.proofs.Searching.{changed, root_only}

module _ (n : Arcs) (f : Flow) (t : SearchTree) (root : ℕ) (sound : Sound n f (λ v. slice_index f.price.now v))
    (found : Found n f t root) where
  -- the search leaves a tree that is tight under the raised prices
  pub tree_by : IsTree n f t root (raised f t)
  tree_by = record {
    predecessors_many = found.search.covers.predecessors_many;
    arc = λ v l nr q.
        let near : distance t v < top = omega (arith, found.sink_near) in
        let it = found.search.reached v l nr near in
        let wide : 0 < width f (slice_index t.predecessor.now v) (way n t v) =
        omega (arith, found.search.some v l near, it.path.fits) in
        let paid = sound.paid (slice_index t.predecessor.now v) (way n t v) it.path.arc wide in
        let end-distance : distance t (to n (slice_index t.predecessor.now v) (way n t v)) ≡ distance t v =
        ap (λ m. slice_index t.distance.now m) it.path.end in
        let sooner : distance t (predecessor n t v (way n t v)) ≤ distance t v = omega (arith, it.exact) in
        record {
          path = it.path;
          sooner = sooner;
          tight = omega (
            arith,
            it.exact,
            gives_raised n f t (slice_index t.predecessor.now v) (way n t v),
            takes_raised n f t (slice_index t.predecessor.now v) (way n t v),
          );
        };
  }

  -- no raised price is above what the search may add and take
  pub raised_low : Spread n f t root (nodes n) → ((v : ℕ) → v < nodes n → prices f v ≤ n.price_bound) → (v : ℕ)
      → v < nodes n → raised f t v ≤ n.price_bound
  raised_low s old v l = elim (cases_lt (distance t v) (distance t 0)) [
    | inl less ↦
        let sink = s.priced.apart 0 found.sink_in found.sink_near in
        omega (
          arith,
          sound.sink_free,
          s.within,
          n.scale.limit_is,
          sink.0,
          (s.priced.apart v l (omega (arith, found.sink_near))).1,
        )
    | inr more ↦ omega (arith, old v l)
  ]

-- prices within bounds are within wider ones
pub priced_more : (n : Arcs) (f : Flow) (t : SearchTree) (root up down up' down' : ℕ) → Priced n f t root up down
    → up ≤ up' → down ≤ down' →
    Priced n f t root up' down'
priced_more n f t root up down up' down' p a b =
    record { apart = λ v l q. let it = p.apart v l q in (omega (arith, it.0), omega (arith, it.1)) }

-- an offer within the bounds keeps them
pub priced_offered : (n : Arcs) (f : Flow) (t t' : SearchTree) (held held' : ℕ → Option ℕ) (o : Offer)
    (root up down : ℕ) →
    o.to < length t.distance.now → Offered held held' t t' o → Priced n f t root up down
    → IsApart f root o.to o.distance up down → Priced n f t' root up down
priced_offered n f t t' held held' o root up down in' it p apart = elim (cases_lt o.distance (distance t o.to)) [
  | inl less ↦
      let changes = changed t.distance.now t'.distance.now o.to o.distance (it.took less).distance in' in
      record {
        apart = λ v l q. elim (cases_eq v o.to) [
          | inl e ↦ rw (e, changes.0) apart
          | inr ne ↦ rw (changes.1 v ne) (p.apart v l (omega (arith, changes.1 v ne)))
        ];
      }
  | inr more ↦ rw (it.kept more).1 p
]

-- at first only the root was reached
pub spread_begun : (n : Arcs) (f : Flow) (t : SearchTree) (held : ℕ → Option ℕ) (root amount : ℕ)
    → Begun t held root amount →
    length t.distance.now ≡ nodes n → Spread n f t root 0
spread_begun n f t held root amount b many =
    record {
      up = 0;
      down = 0;
      within = omega arith;
      priced =
          record {
            apart =
                λ v l q.
                rw (root_only n t held root amount b many v l q)
                (omega (arith, b.distance_root), omega (arith, b.distance_root));
          };
    }

-- prices that spread in some turns spread in more
pub spread_later : (n : Arcs) (f : Flow) (t : SearchTree) (root turn later : ℕ) → Spread n f t root turn → turn ≤ later
    → Spread n f t root later
spread_later n f t root turn later s l =
    record {
      up = s.up;
      down = s.down;
      within = omega (arith, s.within, mul-le-mul_right n.greatest_cost l);
      priced = s.priced;
    }

-- a node adds the greatest cost on one side or on the other
pub spread_on : (n : Arcs) (f : Flow) (t t1 t2 : SearchTree) (root turn a b : ℕ) → a + b ≤ n.greatest_cost
    → Spread n f t root turn →
    ((up down : ℕ) → Priced n f t root up down → Priced n f t1 root (up + a) (down + 0)) →
    ((up down : ℕ) → Priced n f t1 root up down → Priced n f t2 root (up + 0) (down + b))
    → Spread n f t2 root (turn + 1)
spread_on n f t t1 t2 root turn a b few s out back =
    record {
      up = s.up + a + 0;
      down = s.down + 0 + b;
      within = omega (arith, s.within, add-mul turn 1 n.greatest_cost);
      priced = back (s.up + a) (s.down + 0) (out s.up s.down s.priced);
    }
