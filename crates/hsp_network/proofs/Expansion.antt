-- Looking at the residual arcs of a node, one after the other.
use Rattle.std.proofs.Common.{◌≡◌, ◌≢◌, ℕ, ◌+◌, ◌<◌, ◌≤◌, ◌⊎◌, inl, inr, Bool, true, false, length, slice_index, Option}
use Rattle.std.proofs.Common.{Some, None, is_none, if◌then◌else◌, refl, ap, sym, ◌∙◌, arith, length-set, lt-ltb}
use Rattle.std.proofs.Common.{ltb-true}
use Rattle.std.proofs.lemmas.Bool.{cases_eq, cases_lt, cases_Bool, and_parts, and_from}
use Rattle.hsp_network.specs.Residual.{Flow, Arcs, SearchTree, distance, from, gives, nodes, prices, takes, to}
use Rattle.hsp_network.specs.Residual.{way, width}
use Rattle.hsp_network.specs.Search.{Expanding, IsRelaxed, IsWay, MayBeOffered, Offer, Offered, Reached, Ready}
use Rattle.hsp_network.specs.Search.{Search, Settled, TakesWay, Visit, settled_count, settled_test, top}
use Rattle.hsp_network.proofs.AddingUp.{sum_below_le}
use Rattle.hsp_network.proofs.Directions.{direction, from_in, to_in}
use Rattle.hsp_network.proofs.Searching.{cases_option, changed, fewer}

module _ (held : ℕ → Option ℕ) (t : SearchTree) (v : ℕ) where
  -- a node that passes the test is settled
  pub settled_from_test : settled_test held t v ≡ true → Settled held t v
  settled_from_test test =
      let parts = and_parts _ _ test in
      record { not_held = none (held v) parts.0; reached = ltb-true _ _ parts.1 }
    where
      none : (o : Option ℕ) → is_none o ≡ true → o ≡ None
      none None q = refl
      none (Some d) q = cc

  -- a settled node passes the test
  pub test_from_settled : Settled held t v → settled_test held t v ≡ true
  test_from_settled st = and_from _ _ (rw st.not_held refl) (lt-ltb _ _ st.reached)

-- where what was settled stays settled, the count doesn't fall
pub still_counted : (held held' : ℕ → Option ℕ) (t t' : SearchTree) (v : ℕ) → (Settled held t v → Settled held' t' v) →
    (if settled_test held t v then 1 else 0) ≤ (if settled_test held' t' v then 1 else 0)
still_counted held held' t t' v still = elim (cases_Bool (settled_test held t v)) [
  | inl test ↦ rw (test, test_from_settled held' t' v (still (settled_from_test held t v test))) (omega arith)
  | inr out ↦ rw out (omega arith)
]

-- where nodes stay settled, they don't become fewer
pub count_kept : (n : Arcs) (held held' : ℕ → Option ℕ) (t t' : SearchTree)
    → ((v : ℕ) → Settled held t v → Settled held' t' v) →
    settled_count n held t ≤ settled_count n held' t'
count_kept n held held' t t' still = sum_below_le (nodes n) _ _ (λ v l. still_counted held held' t t' v (still v))

-- no residual arc is longer than a step
arc_step : (n : Arcs) (f : Flow) (k : ℕ) (d : Bool)
    → ((v : ℕ) → v < nodes n → slice_index f.price.now v ≤ n.price_bound) → k < length n.tails.now
    → takes n (prices f) k d ≤ n.longest_arc
arc_step n f k true low l =
    omega (arith, n.scale.dear k l, low (slice_index n.heads.now k) (from_in n k false l), n.scale.step_is)
arc_step n f k false low l = omega (arith, low (slice_index n.tails.now k) (n.graph.tails_in k l), n.scale.step_is)

module _ (n : Arcs) (f : Flow) (t : SearchTree) (held : ℕ → Option ℕ) (at : Visit) (seen : ℕ → Bool → Type 0)
    (e : Expanding n f t held at seen) where
  -- the same of other seen arcs, where no open arc of the node is new among them
  pub reseen : (seen' : ℕ → Bool → Type 0) →
      ((k : ℕ) (d : Bool) → k < length n.tails.now → 0 < width f k d → from n k d ≡ at.node → seen' k d → seen k d)
      → Expanding n f t held at seen'
  reseen seen' old =
      record {
        visit = e.visit;
        search = fewer n f t held at.root at.distance _ _ (λ k d l wide look q. old k d l wide q (look q)) e.search;
      }

  -- one arc more was looked at
  module _ (k : ℕ) (d : Bool) (seen' : ℕ → Bool → Type 0)
      (next : (j : ℕ) (c : Bool) → j < length n.tails.now → from n j c ≡ at.node → seen' j c
      → ((j ≡ k) × (c ≡ d)) ⊎ seen j c) where
    -- the directions seen are the earlier ones and this one
    look_next : (j : ℕ) (c : Bool) → j < length n.tails.now → (from n j c ≡ at.node → seen' j c)
        → ((j ≡ k) × (c ≡ d)) ⊎ (from n j c ≡ at.node → seen j c)
    look_next j c l look = elim (cases_eq (from n j c) at.node) [
      | inl here ↦ elim (next j c l here (look here)) [ inl is ↦ inl is | inr past ↦ inr (λ q. past) ]
      | inr other ↦ inr (λ q. absurd (other q))
    ]

    -- one that is relaxed already, and one without residual capacity
    kept : (0 < width f k d → IsRelaxed n f t k d) → Expanding n f t held at seen'
    kept fact = record {
      visit = e.visit;
      search = record {
        labels = e.search.labels;
        relaxed = λ j c l wide st look. elim (look_next j c l look) [
          | inl is ↦ rw (is.0, is.1) (fact (rw (is.0, is.1) at wide))
          | inr past ↦ e.search.relaxed j c l wide st past
        ];
      };
    }

    -- a direction without room offers nothing
    pub passed : width f k d ≡ 0 → Expanding n f t held at seen'
    passed shut = kept (λ wide. absurd (omega arith))

  -- one whose end is offered the way over it
  module _ (ready : Ready n f) (k : ℕ) (d : Bool) (arc : k < length n.tails.now) (leaves : from n k d ≡ at.node)
      (wide : 0 < width f k d)
      (o : Offer) (it-is : IsWay n f t at k d o) (far : at.distance + n.longest_arc < top) where
    -- a way is no shorter than its start
    late : at.distance ≤ o.distance
    late = omega (arith, ready.sound.paid k d arc wide, it-is.exact)

    -- a way is longer by one arc at most
    near : o.distance ≤ at.distance + n.longest_arc
    near = omega (arith, it-is.exact, arc_step n f k d ready.low arc)

    -- the way begins at the node's own distance
    start : distance t (from n k d) ≡ at.distance
    start = rw leaves e.here

    -- the way leads to a node
    node-in : o.to < nodes n
    node-in = rw it-is.enters (to_in n k d arc)

    -- a node that was not reached is not held, and one that could still be lowered is
    pub may_offer : at.turn + 1 < top → MayBeOffered held t o
    may_offer turns =
        let c = e.search.covers in
        record {
          from_in = rw it-is.start (omega (arith, c.distances_many, e.node_in));
          to_in = omega (arith, c.distances_many, node-in);
          predecessors_many = c.predecessors_many ∙ sym c.distances_many;
          amounts_many = c.amounts_many ∙ sym c.distances_many;
          depths_many = c.depths_many ∙ sym c.distances_many;
          shallow = rw it-is.start (omega (arith, e.shallow));
          free = λ q. elim (cases_option (held o.to)) [
            | inl none ↦ none
            | inr w ↦ absurd (omega (arith, q, e.search.held_distance o.to w.0 w.1, e.search.held_low o.to w.0 w.1))
          ];
          waits = λ less reached. elim (cases_option (held o.to)) [
            | inl none ↦
                absurd
                (omega (arith, late, less, e.search.settled_early o.to (record { not_held = none; reached = reached })))
            | inr w ↦ w.1 ∙ ap (λ d. Some d) (sym (e.search.held_distance o.to w.0 w.1))
          ];
        }

    module _ (seen' : ℕ → Bool → Type 0) (next : (j : ℕ) (c : Bool) → j < length n.tails.now → from n j c ≡ at.node
        → seen' j c → ((j ≡ k) × (c ≡ d)) ⊎ seen j c)
        (t' : SearchTree) (held' : ℕ → Option ℕ) where
      -- it takes the way
      module _ (w : TakesWay held held' t t' o) (less : o.distance < distance t o.to) where
        -- nodes that are nearer are not where the way leads
        apart : (v : ℕ) → distance t v ≤ at.distance → v ≢ o.to
        apart v soon q =
            let same : distance t v ≡ distance t o.to = ap (λ m. slice_index t.distance.now m) q in omega (arith, late)

        -- only the node that was reached has another distance
        distances : (distance t' o.to ≡ o.distance) × ((v : ℕ) → v ≢ o.to → distance t' v ≡ distance t v)
        distances =
            changed t.distance.now t'.distance.now o.to o.distance w.distance
            (omega (arith, e.search.covers.distances_many, node-in))

        -- no distance grows
        distance_down : (v : ℕ) → distance t' v ≤ distance t v
        distance_down v =
            elim (cases_eq v o.to) [
              | inl q ↦ rw q (omega (arith, distances.0))
              | inr ne ↦
                  omega (arith, distances.1 v ne)
            ]

        -- only the node that was reached has another amount
        amounts : (slice_index t'.amount.now o.to ≡ o.amount)
            × ((v : ℕ) → v ≢ o.to → slice_index t'.amount.now v ≡ slice_index t.amount.now v)
        amounts =
            changed t.amount.now t'.amount.now o.to o.amount w.amount
            (omega (arith, e.search.covers.amounts_many, node-in))

        -- only the node that was reached has another depth
        depths : (slice_index t'.depth.now o.to ≡ slice_index t.depth.now at.node + 1)
            × ((v : ℕ) → v ≢ o.to → slice_index t'.depth.now v ≡ slice_index t.depth.now v)
        depths =
            changed t.depth.now t'.depth.now o.to _ (rw it-is.start at w.depth)
            (omega (arith, e.search.covers.depths_many, node-in))

        -- only the node that was reached has another predecessor
        predecessors : (slice_index t'.predecessor.now o.to ≡ k)
            × ((v : ℕ) → v ≢ o.to → slice_index t'.predecessor.now v ≡ slice_index t.predecessor.now v)
        predecessors =
            changed t.predecessor.now t'.predecessor.now o.to k (rw it-is.over at w.predecessor)
            (omega (arith, e.search.covers.predecessors_many, node-in))

        -- what is settled now was so before, and the other way round
        was : (v : ℕ) → Settled held' t' v → (v ≢ o.to) × Settled held t v
        was v st =
            let ne : v ≢ o.to = λ q. let a : held' v ≡ held' o.to = ap held' q in let b = st.not_held in
            let c = w.frontier.at in cc in (
              ne,
              record {
                not_held = sym (w.frontier.others v ne) ∙ st.not_held;
                reached = omega (arith, distances.1 v ne, st.reached);
              },
            )

        -- settled nodes stay settled
        still : (v : ℕ) → Settled held t v → Settled held' t' v
        still v st =
            let ne = apart v (e.search.settled_early v st) in
            record {
              not_held = w.frontier.others v ne ∙ st.not_held;
              reached = omega (arith, distances.1 v ne, st.reached);
            }

        -- an entry is the new one or one from before
        entry : (v c : ℕ) → held' v ≡ Some c → ((v ≡ o.to) × (c ≡ o.distance)) ⊎ ((v ≢ o.to) × (held v ≡ Some c))
        entry v c h = elim (cases_eq v o.to) [
          | inl q ↦ inl (q, let a : held' v ≡ held' o.to = ap held' q in let b = w.frontier.at in cc)
          | inr ne ↦ inr (ne, sym (w.frontier.others v ne) ∙ h)
        ]

        -- a node that is reached over the arc j from one whose labels are as they were
        reached_by : (v j : ℕ) (c : Bool) → slice_index t'.predecessor.now v ≡ j → j < length n.tails.now → to n j c ≡ v
            → distance t (from n j c) ≤ at.distance →
            slice_index t.depth.now (from n j c) < slice_index t'.depth.now v
            → slice_index t'.amount.now v ≤ slice_index t.amount.now (from n j c) →
            slice_index t'.amount.now v ≤ width f j c
            → distance t' v + gives n (prices f) j c ≡ distance t (from n j c) + takes n (prices f) j c
            → Reached n f t' at.distance v c
        reached_by v j c is arc end soon deeper carried fits exact =
            let same = apart (from n j c) soon in
            record {
              path =
                  record {
                    arc = rw is arc;
                    end = rw is end;
                    nearer = rw is (omega (arith, depths.1 _ same, deeper));
                    carried = rw is (omega (arith, amounts.1 _ same, carried));
                    fits = rw is fits;
                  };
              soon = rw is (omega (arith, distances.1 _ same, soon));
              exact = rw is (omega (arith, distances.1 _ same, exact));
            }

        -- the node was reached along the arc
        new_arc : Reached n f t' at.distance o.to d
        new_arc =
            reached_by o.to k d predecessors.0 arc (sym it-is.enters) (omega (arith, start))
            (rw leaves (omega (arith, depths.0))) (rw leaves (omega (arith, amounts.0, it-is.amount)))
            (omega (arith, amounts.0, it-is.amount)) (omega (arith, distances.0, start, it-is.exact))

        -- an arc to another node is as it was
        old_arc : (v : ℕ) → v ≢ o.to → (c : Bool) → Reached n f t at.distance v c → Reached n f t' at.distance v c
        old_arc v ne c it =
            reached_by v (slice_index t.predecessor.now v) c (predecessors.1 v ne) it.path.arc it.path.end it.soon
            (omega (arith, depths.1 v ne, it.path.nearer))
            (omega (arith, amounts.1 v ne, it.path.carried)) (omega (arith, amounts.1 v ne, it.path.fits))
            (omega (arith, distances.1 v ne, it.exact))

        -- the search goes on with the shorter distance
        lowered : Search n f t' held' at.root at.distance (λ j c. from n j c ≡ at.node → seen' j c)
        lowered = record {
          labels = record {
            covers = record {
              distances_many = rw w.distance (length-set t.distance.now o.to _ ∙ e.search.covers.distances_many);
              predecessors_many =
                  rw w.predecessor (length-set t.predecessor.now o.to _ ∙ e.search.covers.predecessors_many);
              amounts_many = rw w.amount (length-set t.amount.now o.to _ ∙ e.search.covers.amounts_many);
              depths_many = rw w.depth (length-set t.depth.now o.to _ ∙ e.search.covers.depths_many);
            };
            held_in = λ v c h. elim (entry v c h) [ inl q ↦ rw q.0 node-in | inr q ↦ e.search.held_in v c q.1 ];
            held_distance =
                λ v c h.
                elim (entry v c h) [
                  | inl q ↦ rw q.0 (distances.0 ∙ sym q.1)
                  | inr q ↦
                      distances.1 v q.0 ∙ e.search.held_distance v c q.1
                ];
            held_late = λ v c h. elim (entry v c h) [ inl q ↦ rw q.1 late | inr q ↦ e.search.held_late v c q.1 ];
            held_low =
                λ v c h.
                elim (entry v c h) [ inl q ↦ rw q.1 (omega (arith, near)) | inr q ↦ e.search.held_low v c q.1 ];
            settled_early = λ v st. let q = was v st in omega (arith, distances.1 v q.0, e.search.settled_early v q.1);
            sink_waits = λ st. e.search.sink_waits (was 0 st).1;
            reached = λ v l nr close. elim (cases_eq v o.to) [
              | inl q ↦
                  let turn : way n t' o.to ≡ d = rw predecessors.0 (direction n k d o.to arc (sym it-is.enters)) in
                  rw q (rw turn new_arc)
              | inr ne ↦
                  let turn : way n t' v ≡ way n t v = rw (predecessors.1 v ne) refl in
                  rw turn (old_arc v ne (way n t v) (e.search.reached v l nr (omega (arith, distances.1 v ne))))
            ];
            root_near = omega (arith, distance_down at.root, e.search.root_near);
            some = λ v l close. elim (cases_eq v o.to) [
              | inl q ↦
                  rw q (omega (arith, amounts.0, it-is.amount, wide, e.search.some at.node e.node_in e.settled.reached))
              | inr ne ↦ omega (arith, amounts.1 v ne, e.search.some v l (omega (arith, distances.1 v ne)))
            ];
            no_more = λ v l close. elim (cases_eq v o.to) [
              | inl q ↦
                  rw q (omega (arith, amounts.0, it-is.amount, e.search.no_more at.node e.node_in e.settled.reached))
              | inr ne ↦ omega (arith, amounts.1 v ne, e.search.no_more v l (omega (arith, distances.1 v ne)))
            ];
          };
          relaxed = λ j c l residual_capacity st look.
              let q = was (from n j c) st in
              let same = distances.1 (from n j c) q.0 in
              elim (look_next k d seen' next j c l look) [
                | inl is ↦
                    let there : distance t' (to n j c) ≡ o.distance =
                    rw (is.0, is.1) (rw it-is.enters at distances.0) in
                    let here : distance t (from n j c) ≡ at.distance = rw (is.0, is.1) start in
                    let sum : o.distance + gives n (prices f) j c ≡ at.distance + takes n (prices f) j c =
                    rw (is.0, is.1) it-is.exact in
                    record { no_farther = omega arith; reached = omega (arith, near) }
                | inr past ↦
                    let r = e.search.relaxed j c l residual_capacity q.1 past in
                    record {
                      no_farther = omega (arith, r.no_farther, distance_down (to n j c));
                      reached = omega (arith, r.reached, distance_down (to n j c));
                    }
              ];
        }

        -- a shorter way was taken, and the node is looked at further
        taken : Expanding n f t' held' at seen'
        taken = record {
          search = lowered;
          visit = record {
            settled = still at.node e.settled;
            here = distances.1 at.node away ∙ e.here;
            node_in = e.node_in;
            shallow = omega (arith, depths.1 at.node away, e.shallow);
            counted = record {
              settled = omega (arith, e.counted.settled, count_kept n held held' t t' still);
              depth_low = λ v l q. elim (cases_eq v o.to) [
                | inl this ↦ rw this (omega (arith, depths.0, e.shallow))
                | inr ne ↦ omega (arith, depths.1 v ne, e.counted.depth_low v l (omega (arith, distances.1 v ne)))
              ];
            };
          };
        }
          where
            away : at.node ≢ o.to
            away = apart at.node (omega (arith, e.here))

      -- whether the way is taken or not, the node is looked at further
      pub way_offered : Offered held held' t t' o → Expanding n f t' held' at seen'
      way_offered it = elim (cases_lt o.distance (distance t o.to)) [
        | inl less ↦ taken (it.took less) less
        | inr more ↦
            let at-end : distance t (to n k d) ≡ distance t o.to =
            ap (λ m. slice_index t.distance.now m) (sym it-is.enters) in
            rw ((it.kept more).0, (it.kept more).1)
            (kept k d seen' next
            (λ wide. record { no_farther = omega (arith, it-is.exact, start); reached = omega (arith, near) }))
      ]
