-- Servers and arcs are those of the page only.
use Rattle.std.proofs.Common.{◌≡◌, ◌∙◌, ◌<◌, ℕ, zero, suc, List, [], ◌∷◌, Option, Some, length, map, option_map, refl}
use Rattle.std.proofs.Common.{ap, sym, subst, arith}
use Rattle.std.proofs.lemmas.Option.{slice_get-map, slice_get_within}
use Rattle.std.specs.List.{Contains, IsDistinct, slice_get}
use Rattle.hsp_tables.specs.Capacities.{CapacityEntry, same_capacity}
use Rattle.hsp_tables.specs.Costs.{CostEntry, same_cost}
use Rattle.hsp_instance.specs.Building.{Inputs, arcs_from}
use Rattle.hsp_instance.specs.Instance.{Host, Instance, IsAscending, Row, Server, Site, number_at, same_address}
use Rattle.hsp_instance.specs.Instance.{servers_of}
use Rattle.hsp_instance.specs.Parts.{AreArcsOf, HasPartsOf, IsArcOf}
use Rattle.hsp_instance.specs.declared.arc.Arc.{Arc}
use Rattle.hsp_instance.proofs.ArcLists.{arcs_ascending}
use Rattle.hsp_instance.proofs.Lists.{all_at, there}
use Rattle.hsp_inputs.specs.Headline.{AreArcs, AreServers, IsArc, StandsOn}
use Rattle.hsp_inputs.proofs.Finding.{all_of, first_or_later, is_at_place, number_is, number_is_found, place_of}
use Rattle.hsp_inputs.proofs.Finding.{same_places}
use Rattle.hsp_inputs.proofs.PageServers.{capacity_rows, cost_rows, number_of, one_host}

-- ---- servers

-- servers of the same parts are the same
same_server : (n place id c d : ℕ) (g h : Option ℕ) → c ≡ d → g ≡ h
    → ◌≡◌ {A = Option Server} (Some (record { site = n; place = place; id = id; capacity = c; host = g }))
    (Some (record { site = n; place = place; id = id; capacity = d; host = h }))
same_server n place id c d g h amount host = rw (amount, host) refl

-- servers by the page, of the same sites and hosts, are the same
pub servers_alone : (capacities : List CapacityEntry) (a b : Instance) → IsDistinct same_capacity capacities
    → IsDistinct same_address b.hosts
    → a.sites ≡ b.sites → a.hosts ≡ b.hosts → AreServers capacities a → AreServers capacities b → a.servers ≡ b.servers
servers_alone capacities a b rows_apart hosts_apart sites hosts p q =
    same_places a.servers b.servers (p.count ∙ ap servers_of sites ∙ sym q.count) (λ i server at.
    let within = slice_get_within a.servers i server at in
    let number = number_of a.sites i (omega (arith, p.count)) in
    let n = number.0 in
    let place = number.1 in
    let site = number.2.0 in
    let own = number.2.1 in
    let one = p.each n place site own number.2.2 number.2.3 in
    let at_site = sym (ap (λ (t : List Site). slice_get t n) sites) ∙ number.2.2 in
    let other = q.each n place site own at_site number.2.3 in
    let capacity : Some one.0 ≡ Some other.0 =
    sym (number_is_found (capacity_rows site.name own.id) capacities one.0 rows_apart one.3)
    ∙ number_is_found (capacity_rows site.name own.id) capacities other.0 rows_apart other.3 in
    let amount : one.0 ≡ other.0 = cc (capacity) in
    let on : StandsOn b.hosts own.address one.1 = subst (λ (t : List Host). StandsOn t own.address one.1) hosts one.4 in
    let host : one.1 ≡ other.1 = one_host b.hosts own.address one.1 other.1 hosts_apart on other.4 in
    let here = sym (ap (λ k. slice_get a.servers k) number.2.4) ∙ one.2 in
    let number_there : number_at b.sites n place ≡ i =
    ap (λ (t : List Site). number_at t n place) (sym sites) ∙ number.2.4 in
    let found = sym (ap (λ k. slice_get b.servers k) number_there) ∙ other.2 in
    found ∙ same_server n place own.id other.0 one.0 other.1 one.1 (sym amount) (sym host) ∙ sym here ∙ at)

-- ---- arcs

-- arcs of one order with the same members are the same
abbrev SameMembers : List Arc → List Arc → Type 0
SameMembers xs ys = (arc : Arc) → (Contains xs arc → Contains ys arc) × (Contains ys arc → Contains xs arc)

-- no arc is in an empty list
none_in : (arc : Arc) → Contains [] arc → ⊥
none_in arc is = absurd (omega (arith, is.1))

-- an arc that is not the first is in the rest
in_rest : (x : Arc) (xs : List Arc) (arc : Arc) → Contains (x ∷ xs) arc → (◌≡◌ x arc → ⊥) → Contains xs arc
in_rest x xs arc is other =
    let at = place_of (x ∷ xs) arc is in
    let later = first_or_later x xs arc at.0 at.1 other in
    is_at_place xs arc later.0 later.1

-- an arc of the rest is in the list
in_more : (x : Arc) (xs : List Arc) (arc : Arc) → Contains xs arc → Contains (x ∷ xs) arc
in_more x xs arc is = let at = place_of xs arc is in is_at_place (x ∷ xs) arc (suc at.0) at.1

-- a later arc leads to a later site
after : (x : Arc) (xs : List Arc) (arc : Arc) → IsAscending (x ∷ xs) → Contains xs arc → x.site < arc.site
after x xs arc ascends is = all_of (λ (later : Arc). x.site < later.site) xs arc ascends.0 is

-- the first of one list is at the first place or later in the other
first_is : (x : Arc) (xs : List Arc) (y : Arc) (i j : ℕ) (ys : List Arc) → IsAscending (x ∷ xs) → IsAscending (y ∷ ys)
    → slice_get (y ∷ ys) i ≡ Some x → slice_get (x ∷ xs) j ≡ Some y → x ≡ y
first_is x xs y zero j ys p q a b = let same : y ≡ x = cc (a) in sym same
first_is x xs y (suc i) zero ys p q a b = cc (b)
first_is x xs y (suc i) (suc j) ys p q a b =
    let below = all_at (λ (later : Arc). y.site < later.site) ys i x q.0 a in
    let above = all_at (λ (later : Arc). x.site < later.site) xs j y p.0 b in
    absurd (omega arith)

-- ascending lists of the same arcs are one list
arcs_same : (xs ys : List Arc) → IsAscending xs → IsAscending ys → SameMembers xs ys → xs ≡ ys
arcs_same [] [] p q same = refl
arcs_same [] (y ∷ ys) p q same = absurd (none_in y ((same y).1 (is_at_place (y ∷ ys) y 0 refl)))
arcs_same (x ∷ xs) [] p q same = absurd (none_in x ((same x).0 (is_at_place (x ∷ xs) x 0 refl)))
arcs_same (x ∷ xs) (y ∷ ys) p q same =
    let a = place_of (y ∷ ys) x ((same x).0 (is_at_place (x ∷ xs) x 0 refl)) in
    let b = place_of (x ∷ xs) y ((same y).1 (is_at_place (y ∷ ys) y 0 refl)) in
    let head : x ≡ y = first_is x xs y a.0 b.0 ys p q a.1 b.1 in
    let later : SameMembers xs ys = λ arc. (
      λ is. in_rest y ys arc ((same arc).0 (in_more x xs arc is)) (λ e. let e2 : x ≡ arc = head ∙ e in
          let less = after x xs arc p is in absurd (below_itself arc.site (rw e2 at less))),
      λ is. in_rest x xs arc ((same arc).1 (in_more y ys arc is)) (λ e. let e2 : y ≡ arc = sym head ∙ e in
          let less = after y ys arc q is in absurd (below_itself arc.site (rw e2 at less))),
    ) in
    let tail : xs ≡ ys = arcs_same xs ys p.1 q.1 later in
    cc (head, tail)
  where
    below_itself : (n : ℕ) → n < n → ⊥
    below_itself n less = omega arith

-- arcs by the page, of the same rows and sites, are the same
pub arcs_alone : (costs : List CostEntry) (a b : Instance) → a.rows ≡ b.rows → a.sites ≡ b.sites → AreArcs costs a
    → AreArcs costs b → a.arcs ≡ b.arcs
arcs_alone costs a b rows sites p q =
    same_places a.arcs b.arcs (p.count ∙ ap length rows ∙ sym q.count) (λ i arcs at.
    let within = slice_get_within a.arcs i arcs at in
    let row = there a.rows i (omega (arith, p.count)) in
    let other =
    there b.arcs i (let long : length a.rows ≡ length b.rows = ap length rows in
    omega (arith, p.count, q.count, long)) in
    let one = p.each i row.0 arcs row.1 at in
    let two = q.each i row.0 other.0 (sym (ap (λ (t : List Row). slice_get t i) rows) ∙ row.1) other.1 in
    let same : SameMembers arcs other.0 = λ arc. (
      λ is. (two.1 arc).1 (subst (λ (t : List Site). IsArc costs t row.0 arc) sites ((one.1 arc).0 is)),
      λ is. (one.1 arc).1 (subst (λ (t : List Site). IsArc costs t row.0 arc) (sym sites) ((two.1 arc).0 is)),
    ) in
    let are : arcs ≡ other.0 = arcs_same arcs other.0 one.0 two.0 same in
    other.1 ∙ ap (λ (t : List Arc). Some t) (sym are))

-- ---- of what is built

-- the arcs that are built are those of the page
pub arcs_are : (inputs : Inputs) (it : Instance) → IsDistinct same_cost inputs.costs → HasPartsOf inputs it
    → it.arcs ≡ map (λ row. arcs_from inputs.costs row 0 0 it.sites) it.rows → length it.arcs ≡ length it.rows
    → AreArcs inputs.costs it
arcs_are inputs it apart has made count = record {
  count = count;
  each = λ i row arcs at here.
      let of_row = has.arcs i row at in
      let same : of_row.0 ≡ arcs = let e : Some of_row.0 ≡ Some arcs = sym of_row.1 ∙ here in cc (e) in
      let are : AreArcsOf inputs.costs it.sites row arcs = rw same at of_row.2 in
      let mapped : slice_get it.arcs i ≡ Some (arcs_from inputs.costs row 0 0 it.sites) =
      rw made (rw slice_get-map (ap (option_map (λ (r : Row). arcs_from inputs.costs r 0 0 it.sites)) at)) in
      let from : arcs ≡ arcs_from inputs.costs row 0 0 it.sites = let e : Some arcs
      ≡ Some (arcs_from inputs.costs row 0 0 it.sites) = sym here ∙ mapped in cc (e) in (
        rw from (arcs_ascending inputs.costs row 0 0 it.sites),
        λ arc. (
          λ is.
              let of_page = all_of (IsArcOf inputs.costs it.sites row) arcs arc are.each is in
              record {
                site = of_page.site;
                is_site = of_page.is_site;
                cost = number_is (cost_rows row.region of_page.site.name) inputs.costs arc.cost of_page.cost;
                server = of_page.server;
              },
          λ is.
              let cost = number_is_found (cost_rows row.region is.site.name) inputs.costs arc.cost apart is.cost in
              let among = are.all arc.site is.site arc.cost is.is_site cost in
              is_at_place arcs arc among.0 (among.1 ∙ rw (← is.server) refl),
        ),
      );
}
