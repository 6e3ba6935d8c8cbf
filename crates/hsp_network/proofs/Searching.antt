-- The steps of a search.
use Rattle.std.proofs.Common.{◌≡◌, ◌≢◌, ℕ, ◌<◌, ◌≤◌, ◌⊎◌, inl, inr, Bool, List, length, slice_index, slice_set, Option}
use Rattle.std.proofs.Common.{Some, None, refl, ap, sym, ◌∙◌, arith, get_or-set_same, get_or-set_other}
use Rattle.std.proofs.lemmas.Bool.{cases_eq, cases_lt}
use Rattle.hsp_network.specs.Frontier.{Changes, IsLeast}
use Rattle.hsp_network.specs.Residual.{Flow, Arcs, SearchTree, distance, from, nodes, width}
use Rattle.hsp_network.specs.Search.{Begun, Closed, Found, Search, Settled, top}

-- a key is there or not
pub cases_option : (o : Option ℕ) → (o ≡ None) ⊎ ((d : ℕ) × (o ≡ Some d))
cases_option None = inl refl
cases_option (Some d) = inr (d, refl)

-- at the start only the root is reached
pub root_only : (n : Arcs) (t : SearchTree) (held : ℕ → Option ℕ) (root amount : ℕ) → Begun t held root amount
    → length t.distance.now ≡ nodes n →
    (v : ℕ) → v < nodes n → distance t v < top → v ≡ root
root_only n t held root amount b many v l near =
    elim (cases_eq v root) [ inl e ↦ e | inr ne ↦ absurd (omega (arith, b.distance_rest v (omega arith) ne)) ]

-- a list with one entry changed
pub changed : (xs ys : List ℕ) (i x : ℕ) → ys ≡ slice_set xs i x → i < length xs →
    (slice_index ys i ≡ x) × ((v : ℕ) → v ≢ i → slice_index ys v ≡ slice_index xs v)
changed xs ys i x is l = (rw is (get_or-set_same xs i x 0 l), λ v ne. rw is (get_or-set_other xs i v x 0 ne))

-- the same of fewer arcs
pub fewer : (n : Arcs) (f : Flow) (t : SearchTree) (held : ℕ → Option ℕ) (root now : ℕ)
    (looked looked' : ℕ → Bool → Type 0) →
    ((k : ℕ) (d : Bool) → k < length n.tails.now → 0 < width f k d → looked' k d → looked k d) →
    Search n f t held root now looked → Search n f t held root now looked'
fewer n f t held root now looked looked' old s =
    record { labels = s.labels; relaxed = λ k d l wide st look. s.relaxed k d l wide st (old k d l wide look) }

module _ (n : Arcs) (f : Flow) (t : SearchTree) (held : ℕ → Option ℕ) (root now : ℕ)
    (s : Search n f t held root now (λ _ _. Unit {0})) where
  -- a node that is nearer than the least that is held is settled
  sooner : (node near v : ℕ) → IsLeast held node near → distance t v < near → Settled held t v
  sooner node near v least less = record {
    not_held = elim (cases_option (held v)) [
      | inl e ↦ e
      | inr w ↦
          let k : distance t v ≡ w.0 = s.held_distance v w.0 w.1 in
          let b : near ≤ w.0 = least.none_below v w.0 w.1 in
          absurd (omega arith)
    ];
    reached = let b : near < top = s.held_low node near least.there in omega arith;
  }

  -- the sink is the least node that is held: the search came to it
  pub arrived : (near : ℕ) → IsLeast held 0 near → Found n f t root
  arrived near least =
      let at : distance t 0 ≡ near = s.held_distance 0 near least.there in
      let low : near < top = s.held_low 0 near least.there in
      record {
        held = held;
        now = now;
        search = fewer n f t held root now _ _ (λ k d l wide none. tt) s;
        sink_in = s.held_in 0 near least.there;
        sink_near = omega arith;
        relaxed =
            λ k d l wide less. (s.relaxed k d l wide (sooner 0 near (from n k d) least (omega arith)) tt).no_farther;
      }

  -- there is nothing left to settle
  pub closed : ((v : ℕ) → held v ≡ None) → Closed n f t root
  closed none = record {
    root_in = s.root_near;
    sink_out = elim (cases_lt (distance t 0) top) [
      | inl near ↦ absurd (s.sink_waits (record { not_held = none 0; reached = near }))
      | inr far ↦ far
    ];
    out =
        λ k d l wide near. (s.relaxed k d l wide (record { not_held = none (from n k d); reached = near }) tt).reached;
  }

  -- the least node is settled, and its arcs are to be looked at
  pub taken : (node near : ℕ) (held' : ℕ → Option ℕ) → IsLeast held node near → Changes held held' node None → node ≢ 0
      →
      Search n f t held' root near (λ k d. from n k d ≡ node → ⊥)
  taken node near held' least change away = record {
    labels = record {
      covers = s.covers;
      held_in = λ v d h. s.held_in v d (past v d h);
      held_distance = λ v d h. s.held_distance v d (past v d h);
      held_late = λ v d h. least.none_below v d (past v d h);
      held_low = λ v d h. s.held_low v d (past v d h);
      settled_early = λ v st. elim (cases_eq v node) [
        | inl e ↦ rw e (omega (arith, s.held_distance node near least.there))
        | inr ne ↦ omega (arith, s.settled_early v (was v ne st), s.held_late node near least.there)
      ];
      sink_waits = λ st. s.sink_waits (was 0 (λ e. away (sym e)) st);
      reached = λ v l nr near'.
          let it = s.reached v l nr near' in
          record { path = it.path; soon = omega (arith, it.soon, s.held_late node near least.there); exact = it.exact };
      root_near = s.root_near;
      some = s.some;
      no_more = s.no_more;
    };
    relaxed = λ k d l wide st look. s.relaxed k d l wide (was (from n k d) (λ e. look e) st) tt;
  }
    where
      past : (v d : ℕ) → held' v ≡ Some d → held v ≡ Some d
      past v d h = elim (cases_eq v node) [
        | inl e ↦ absurd (let a : held' v ≡ held' node = ap held' e in let c = change.at in cc)
        | inr ne ↦ sym (change.others v ne) ∙ h
      ]

      was : (v : ℕ) → v ≢ node → Settled held' t v → Settled held t v
      was v ne st = record { not_held = sym (change.others v ne) ∙ st.not_held; reached = st.reached }
