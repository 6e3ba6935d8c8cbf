-- The turns of a search, from its start to its end.
use Rattle.std.proofs.Common.{◌≡◌, ◌≢◌, ℕ, ◌+◌, ◌*◌, ◌<◌, ◌≤◌, inl, inr, Bool, true, false, length, slice_index, Option}
use Rattle.std.proofs.Common.{Some, None, if◌then◌else◌, refl, ap, sym, ◌∙◌, arith, mul-le-mul_right}
use Rattle.std.proofs.lemmas.Bool.{cases_eq, cases_lt}
use Rattle.std.proofs.lemmas.List.{get_or_past}
use Rattle.hsp_network.specs.Frontier.{Changes, IsLeast}
use Rattle.hsp_network.specs.Residual.{Flow, Arcs, SearchTree, distance, from, nodes}
use Rattle.hsp_network.specs.Search.{Begun, Covers, Expanding, Ready, Running, Settled, Spread, Visit}
use Rattle.hsp_network.specs.Search.{settled_count, settled_test, top}
use Rattle.hsp_network.specs.Sums.{sum_below}
use Rattle.hsp_network.proofs.AddingUp.{sum_below_low, sum_below_lt}
use Rattle.hsp_network.proofs.Directions.{from_in}
use Rattle.hsp_network.proofs.Searching.{fewer, taken, cases_option, root_only}
use Rattle.hsp_network.proofs.Expansion.{still_counted, test_from_settled}

-- the search begins at a root that has flow to send
pub begun : (n : Arcs) (f : Flow) (t : SearchTree) (held : ℕ → Option ℕ) (root : ℕ) → Covers n t → root < nodes n
    → root ≢ 0 →
    0 < slice_index f.excess.now root → Begun t held root (slice_index f.excess.now root) → Running n f t held root 0
begun n f t held root covers root-in away pos b = record {
  now = 0;
  search = record {
    labels = record {
      covers = covers;
      held_in = λ v d h. rw (is-root v d h) root-in;
      held_distance = λ v d h. rw (is-root v d h) (b.distance_root ∙ sym (is-zero v d h));
      held_late = λ v d h. omega arith;
      held_low = λ v d h. omega (arith, is-zero v d h);
      settled_early = λ v st. elim (cases_lt v (length t.distance.now)) [
        | inl l ↦ absurd (omega (arith, b.distance_rest v l (not-root v st), st.reached))
        | inr past ↦ omega (arith, get_or_past t.distance.now v 0 past)
      ];
      sink_waits = λ st. none 0 (omega arith) st;
      reached = λ v l nr near. absurd (nr (root-only v l near));
      root_near = omega (arith, b.distance_root);
      some = λ v l near. rw (root-only v l near) (omega (arith, b.amount_root));
      no_more = λ v l near. rw (root-only v l near) (omega (arith, b.amount_root));
    };
    relaxed = λ k d l wide st look. absurd (none (from n k d) (from_in n k d l) st);
  };
  counted = record {
    settled = omega arith;
    depth_low = λ v l near. rw (root-only v l near) (omega (arith, b.depth_root));
  };
}
  where
    is-root : (v d : ℕ) → held v ≡ Some d → v ≡ root
    is-root v d h = elim (cases_eq v root) [ inl e ↦ e | inr ne ↦ absurd (let m = b.held_rest v ne in cc) ]

    is-zero : (v d : ℕ) → held v ≡ Some d → d ≡ 0
    is-zero v d h = let e : held v ≡ held root = ap held (is-root v d h) in let r = b.held_root in cc

    not-root : (v : ℕ) → Settled held t v → v ≢ root
    not-root v st e = let q : held v ≡ held root = ap held e in let r = b.held_root in let m = st.not_held in cc

    none : (v : ℕ) → v < nodes n → Settled held t v → ⊥
    none v l st = omega (arith, b.distance_rest v (omega (arith, covers.distances_many)) (not-root v st), st.reached)

    root-only : (v : ℕ) → v < nodes n → distance t v < top → v ≡ root
    root-only = root_only n t held root _ b covers.distances_many

module _ (n : Arcs) (f : Flow) (t : SearchTree) (held : ℕ → Option ℕ) (root turn : ℕ) (r : Running n f t held root turn)
  where
    -- every number on the way fits
    pub far_fits : Ready n f → Spread n f t root turn → turn ≤ nodes n → (node near : ℕ) → IsLeast held node near
        → near + n.longest_arc < top
    far_fits ready spread few node near least =
        let k : distance t node ≡ near = r.search.held_distance node near least.there in
        let low : near < top = r.search.held_low node near least.there in
        let in' : node < nodes n = r.search.held_in node near least.there in
        let apart = spread.priced.apart node in' (omega (arith, k, low)) in
        let turns : turn * n.greatest_cost ≤ nodes n * n.greatest_cost = mul-le-mul_right n.greatest_cost few in
        omega (
          arith,
          k,
          apart.0,
          spread.within,
          turns,
          ready.low node in',
          n.scale.limit_is,
          n.scale.small,
        )

    pub turned : (at : Visit) → at.root ≡ root → at.turn ≡ turn → (held' : ℕ → Option ℕ)
        → IsLeast held at.node at.distance → Changes held held' at.node None → at.node ≢ 0 →
        Expanding n f t held' at (λ _ _. ⊥)
    turned at is when held' least change away =
        let s = r.search in
        let here : distance t at.node ≡ at.distance = s.held_distance at.node at.distance least.there in
        let low : at.distance < top = s.held_low at.node at.distance least.there in
        let in' : at.node < nodes n = s.held_in at.node at.distance least.there in
        let late : r.now ≤ at.distance = s.held_late at.node at.distance least.there in
        let st : Settled held' t at.node = record { not_held = change.at; reached = omega arith } in
        let still : (v : ℕ) → Settled held t v → Settled held' t v = λ v q.
        let ne : v ≢ at.node = λ e. let a : held v ≡ held at.node = ap held e in let b = q.not_held in
        let c = least.there in cc in
        record { not_held = change.others v ne ∙ q.not_held; reached = q.reached } in
        let before : settled_test held t at.node ≡ false = rw least.there refl in
        let after : settled_test held' t at.node ≡ true = test_from_settled held' t at.node st in
        record {
          search = rw is (taken n f t held root r.now s at.node at.distance held' least change away);
          visit = record {
            settled = st;
            here = here;
            node_in = in';
            shallow = omega (arith, r.counted.depth_low at.node in' (omega arith));
            counted = record {
              settled =
                  let more : settled_count n held t < settled_count n held' t =
                  sum_below_lt (nodes n) _ _ at.node in' (rw (before, after) (omega arith))
                  (λ v l. still_counted held held' t t v (still v)) in
                  omega (arith, r.counted.settled);
              depth_low = λ v l q. omega (arith, r.counted.depth_low v l q);
            };
          };
        }

    -- once every node has had its turn, none is held
    pub all_done : nodes n ≤ turn → (v : ℕ) → held v ≡ None
    all_done many v = elim (cases_option (held v)) [
      | inl none ↦ none
      | inr w ↦
          let l : v < nodes n = r.search.held_in v w.0 w.1 in
          let less : settled_count n held t < sum_below (nodes n) (λ _. 1) =
          sum_below_lt (nodes n) _ (λ _. 1) v l (rw w.1 (omega arith)) (λ k q. at-most-one (settled_test held t k)) in
          absurd (omega (arith, r.counted.settled, sum_below_low (nodes n) (λ _. 1) 1 (λ k q. omega arith)))
    ]
      where
        at-most-one : (t : Bool) → (if t then 1 else 0) ≤ 1
        at-most-one true = omega arith
        at-most-one false = omega arith

-- after a node's arcs were looked at
pub went : (n : Arcs) (f : Flow) (t : SearchTree) (held : ℕ → Option ℕ) (at : Visit)
    → Expanding n f t held at (λ _ _. Unit {0}) → Running n f t held at.root (at.turn + 1)
went n f t held at e = record {
  now = at.distance;
  search = fewer n f t held at.root at.distance _ _ (λ k d l wide look q. tt) e.search;
  counted = e.counted;
}
