-- Sets of servers, and the rows that can go nowhere else.
use Rattle.std.proofs.Common.{◌≡◌, ℕ, ◌+◌, ◌<◌, ◌≤◌, ◌==◌, ◌∙◌, ◌⊎◌, inl, inr, Bool, true, false, List, [], ◌∷◌, length}
use Rattle.std.proofs.Common.{slice_index, slice_index_or, is_none, min, All, if◌then◌else◌, refl, ap, sym, arith}
use Rattle.std.proofs.Common.{eq-eqb, ne_eqb}
use Rattle.std.specs.Prelude.{◌&&◌, not}
use Rattle.std.specs.List.{list_any}
use Rattle.std.proofs.lemmas.Bool.{cases_Bool, or_cases, false≢true, and_from, and_left, and_right, cases_eq}
use Rattle.std.proofs.lemmas.List.Elements.{All-head, All-tail}
use Rattle.std.proofs.lemmas.List.Folds.{list_any_at, list_any_none}
use Rattle.hsp_transport.specs.Sums.{sum_below}
use Rattle.hsp_transport.proofs.Summing.{sum_below_le}
use Rattle.hsp_transport.specs.Cut.{reached_capacity}
use Rattle.hsp_check.specs.declared.arc.NetworkArc.{NetworkArc}
use Rattle.hsp_check.specs.Network.{Network, transport}
use Rattle.hsp_check.specs.Plan.{is_on, on_host}
use Rattle.hsp_check.specs.Short.{demand_of, reaches}
use Rattle.hsp_check.proofs.Duality.{short_shows_none}
use Rattle.hsp_prices.specs.ServerSets.{capacity_in, is_caught}
use Rattle.hsp_prices.specs.ServerSets.{ServersShowShortages, ShortServersShowNone}

-- what is reached from rows whose arcs stay in a set is in the set
pub stays : (rows servers : ℕ → Bool) (arcs : List NetworkArc)
    → All (λ (a : NetworkArc). rows a.row ≡ true → servers a.server ≡ true) arcs
    → (j : ℕ) → list_any (λ (a : NetworkArc). rows a.row && a.server == j) arcs ≡ true → servers j ≡ true
stays rows servers [] all j e = absurd (false≢true e)
stays rows servers (a ∷ rest) all j e =
    let Stays = λ (a : NetworkArc). rows a.row ≡ true → servers a.server ≡ true in
    elim (or_cases (rows a.row && a.server == j) (list_any (λ (a : NetworkArc). rows a.row && a.server == j) rest) e) [
      | inl own ↦ grind (arith, All-head Stays a rest all)
      | inr more ↦ stays rows servers rest (All-tail Stays a rest all) j more
    ]

-- Of two sets of servers the first is within the second, so it takes no more.
module _ (n : Network) (f g : ℕ → ℕ) (less : (j : ℕ) → f j ≤ g j) where
  -- a flag keeps the order
  within : (t : Bool) (j : ℕ) → (if t then f j else 0) ≤ (if t then g j else 0)
  within true j = less j
  within false j = omega arith

  -- by servers on no host, and by hosts
  pub less_room :
      sum_below (length n.capacities) (λ j. if is_none (n.host_of j) then f j else 0)
      + sum_below (length n.limits) (λ h. min (slice_index n.limits h) (on_host n f h))
      ≤ sum_below (length n.capacities) (λ j. if is_none (n.host_of j) then g j else 0)
      + sum_below (length n.limits) (λ h. min (slice_index n.limits h) (on_host n g h))
  less_room =
      let hosted = λ (h : ℕ). sum_below_le (length n.capacities) _ _ (λ j l. within (is_on (n.host_of j) h) j) in
      omega (
        arith,
        sum_below_le (length n.capacities) _ _ (λ j l. within (is_none (n.host_of j)) j),
        sum_below_le (length n.limits) (λ h. min (slice_index n.limits h) (on_host n f h))
            (λ h. min (slice_index n.limits h) (on_host n g h)) (λ h l. omega (arith, hosted h)),
      )

module _ (n : Network) where
  -- an arc of a row that the set catches leads into the set
  caught_stays : (servers : ℕ → Bool)
      → All (λ (a : NetworkArc). is_caught n servers a.row ≡ true → servers a.server ≡ true) n.arcs
  caught_stays servers k d l caught =
      let arc = slice_index_or n.arcs k d in
      elim (cases_Bool (servers arc.server)) [
        | inl t ↦ t
        | inr f ↦
            let out : list_any (λ (a : NetworkArc). a.row == arc.row && not (servers a.server)) n.arcs ≡ true =
            list_any_at (λ (a : NetworkArc). a.row == arc.row && not (servers a.server)) n.arcs k d l
            (and_from _ _ (eq-eqb arc.row arc.row refl) (ap not f)) in
            absurd (false≢true (sym (ap not out) ∙ caught))
      ]

  -- what the caught rows reach is no more than the set
  reached_less : (servers : ℕ → Bool) (j : ℕ)
      → reached_capacity (transport n) (is_caught n servers) j ≤ capacity_in n servers j
  reached_less servers j =
      grind (arith, stays (is_caught n servers) servers n.arcs (caught_stays servers) j)

  -- a row of a set is caught by what the set reaches
  catches : (rows : ℕ → Bool) (i : ℕ) → rows i ≡ true → is_caught n (reaches n rows) i ≡ true
  catches rows i in-set =
      ap not
      (list_any_none (λ (a : NetworkArc). a.row == i && not (reaches n rows a.server)) n.arcs
      (λ k d l. at k d l (cases_eq (slice_index_or n.arcs k d).row i)))
    where
      at : (k : ℕ) (d : NetworkArc) → k < length n.arcs
          → ((slice_index_or n.arcs k d).row ≡ i) ⊎ ((slice_index_or n.arcs k d).row ≡ i → ⊥)
          → ((slice_index_or n.arcs k d).row == i && not (reaches n rows (slice_index_or n.arcs k d).server)) ≡ false
      at k d l (inl same) =
          let arc = slice_index_or n.arcs k d in
          let r : reaches n rows arc.server ≡ true =
          list_any_at (λ (a : NetworkArc). rows a.row && a.server == arc.server) n.arcs k d l
          (and_from _ _ (ap rows same ∙ in-set) (eq-eqb arc.server arc.server refl)) in
          and_right (arc.row == i) (not (reaches n rows arc.server)) (ap not r)
      at k d l (inr other) = and_left ((slice_index_or n.arcs k d).row == i) _ (ne_eqb _ _ other)

  -- so they ask for no less
  more_demand : (rows : ℕ → Bool) → demand_of n rows ≤ demand_of n (is_caught n (reaches n rows))
  more_demand rows = sum_below_le (length n.demands) _ _ (λ i l. grind (arith, catches rows i))

-- short sets of rows are those of servers
pub servers_show_shortages : ServersShowShortages
servers_show_shortages n = record {
  of_servers =
      λ servers more. omega (
        arith,
        less_room n (reached_capacity (transport n) (is_caught n servers))
            (capacity_in n servers) (reached_less n servers),
      );
  of_rows = λ rows more. omega (arith, more_demand n rows);
}

-- they show that no plan is feasible
pub short_servers_show_none : ShortServersShowNone
short_servers_show_none n servers is more x feasible =
    short_shows_none n (is_caught n servers) is ((servers_show_shortages n).of_servers servers more) x feasible
