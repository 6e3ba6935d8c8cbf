-- A valid certificate of a short set of servers shows that no plan is feasible.
use Rattle.std.proofs.Common.{◌≡◌, ℕ, ◌<◌, ◌==◌, ◌&&◌, ◌∙◌, Bool, true, false, List, [], ◌∷◌, length, map, not}
use Rattle.std.proofs.Common.{slice_index, refl, ap, ap₂, sym, arith}
use Rattle.std.specs.List.{list_all, list_any}
use Rattle.std.proofs.lemmas.List.{length-map, get_or-map}
use Rattle.hsp_transport.specs.Kinds.{Link, links_in}
use Rattle.hsp_transport.specs.Network.{Network as Theory}
use Rattle.hsp_transport.specs.Sums.{sum_below}
use Rattle.hsp_transport.proofs.Rowwise.{when}
use Rattle.hsp_transport.proofs.Summing.{by_place, sum_below_same}
use Rattle.hsp_instance.specs.Instance.{Row}
use Rattle.hsp_instance.specs.declared.arc.Arc.{Arc}
use Rattle.hsp_check.specs.Network.{site_of, transport}
use Rattle.hsp_check.specs.Short.{demand_of}
use Rattle.hsp_check.specs.Verdict.{is_one_of}
use Rattle.hsp_check.proofs.RowLinks.{link}
use Rattle.hsp_prices.specs.Rows.{Service, network_for}
use Rattle.hsp_prices.proofs.ByTables.{links_are, no_row, row_at}
use Rattle.hsp_prices.specs.ServerSets.{AreShort, is_caught}
use Rattle.hsp_prices.proofs.Catching.{short_servers_show_none}
use Rattle.hsp_prices.specs.Least.{arcs_of}
use Rattle.hsp_prices.specs.Shown.{ShortageIsShown}
use Rattle.hsp_prices.specs.Sums.{caught_count, caught_in_all}
use Rattle.hsp_prices.specs.declared.verdict.PriceReason.TheVariants.{CapacitySum, DemandSum, NotShort}
use Rattle.hsp_prices.proofs.Networks.{network_there}
use Rattle.hsp_prices.proofs.ServerArcs.{own_arcs}

-- some arc of a source passes a test where some link of it does
any_link : {A : Type 0} (site : A → ℕ) (n : Theory A) (test : ℕ → Bool) (arcs : List A) (i : ℕ) →
    list_any (λ a. n.source a == i && test (n.server a)) arcs
    ≡ list_any (λ (b : Link). test b.server) (links_in site n arcs i)
any_link site n test [] i = refl
any_link site n test (a ∷ arcs) i = grind (arith, any_link site n test arcs i)

-- some link leads out of a set where not all arcs lead into it
all_in : (servers : ℕ → Bool) (arcs : List Arc)
    → not (list_any (λ (b : Link). not (servers b.server)) (map link arcs))
    ≡ list_all (λ (a : Arc). servers a.server) arcs
all_in servers [] = refl
all_in servers (a ∷ arcs) = one (servers a.server) refl (all_in servers arcs)
  where
    one : (t : Bool) → servers a.server ≡ t
        → not (list_any (λ (b : Link). not (servers b.server)) (map link arcs))
        ≡ list_all (λ (c : Arc). servers c.server) arcs
        → not (list_any (λ (b : Link). not (servers b.server)) (map link (a ∷ arcs)))
        ≡ list_all (λ (c : Arc). servers c.server) (a ∷ arcs)
    one true e more = rw e more
    one false e more = rw e refl

module _ (at : Service) (rows : List Row) (servers : ℕ → Bool) where
  -- a row is caught where all its arcs lead into the set
  caught_is : (i : ℕ) → i < length rows
      → is_caught (network_for at rows) servers i
      ≡ list_all (λ (a : Arc). servers a.server) (arcs_of at (row_at rows i))
  caught_is i l =
      ap not
      (any_link site_of (transport (network_for at rows)) (λ j. not (servers j)) (network_for at rows).arcs i
      ∙ ap (list_any (λ (b : Link). not (servers b.server))) (links_are at (arcs_of at) rows i l))
      ∙ all_in servers (arcs_of at (row_at rows i))

-- what the caught rows ask for is what is counted
caught_demand : (at : Service) (rows : List Row) (list : List ℕ)
    → demand_of (network_for at rows) (is_caught (network_for at rows) (is_one_of list)) ≡ caught_in_all at list rows
caught_demand at rows list =
    ap
    (λ n. sum_below n (λ i. when (is_caught (network_for at rows) (is_one_of list) i)
    (slice_index (network_for at rows).demands i))) (length-map rows (λ (r : Row). r.count))
    ∙ sum_below_same (length rows) _ _ (λ i l.
    ap₂ when (caught_is at rows (is_one_of list) i l) (get_or-map (λ (r : Row). r.count) rows i no_row 0 l))
    ∙ sym (by_place (caught_count at list) no_row rows)

-- a valid certificate of a short set shows that it is short
pub shortage_is_shown : ShortageIsShown
shortage_is_shown at rows set is meets =
    let demand = meets DemandSum ∙ sym (caught_demand at rows set.servers) in
    let short : AreShort (network_for at rows) (is_one_of set.servers) =
    omega (arith, demand, meets CapacitySum, meets NotShort) in (
      short,
      short_servers_show_none (network_for at rows) (is_one_of set.servers)
          (network_there at is (arcs_of at) (own_arcs at is) rows) short,
    )
