-- What a feasible plan sends of a row to all sites is the whole number of the row.
use Rattle.std.proofs.Common.{◌≡◌, ◌≢◌, ◌<◌, ◌+◌, ◌*◌, ◌∙◌, ◌==◌, ℕ, zero, suc, List, [], ◌∷◌, length, map, sum_by}
use Rattle.std.proofs.Common.{Some, if◌then◌else◌, slice_index, arith, refl, sym, ap}
use Rattle.std.proofs.Common.{inl, inr}
use Rattle.std.specs.List.{AllByRecursion, slice_get}
use Rattle.std.proofs.lemmas.Bool.{cases_Bool}
use Rattle.std.proofs.lemmas.List.{get_or-map, length-map}
use Rattle.std.proofs.lemmas.List.Elements.{All-from_recursion}
use Rattle.std.proofs.lemmas.List.Sums.{sum_by-append, sum_by-cons}
use Rattle.std.proofs.lemmas.Option.{get_or_from_slice_get, slice_get_within}
use Rattle.hsp_instance.specs.Instance.{AreArcs, Instance, IsArc, IsAscending, IsInstance, IsServer, Row}
use Rattle.hsp_instance.specs.declared.arc.Arc.{Arc}
use Rattle.hsp_instance.proofs.Lists.{all_at, there}
use Rattle.hsp_check.specs.Instance.{arc_of, arcs_from, network_of}
use Rattle.hsp_check.specs.Network.{is_allowed}
use Rattle.hsp_check.specs.Plan.{Feasible, Plan}
use Rattle.hsp_check.specs.declared.arc.NetworkArc.{NetworkArc}
use Rattle.hsp_transport.specs.Sums.{sum_below}
use Rattle.hsp_transport.proofs.Summing.{by_key, sum_below_same, sum_by_same_all}
use Rattle.hsp_dispatch.specs.Dispatch.{arc_to, assigned_in}
use Rattle.hsp_dispatch.specs.FrontLaws.{IsServedTogether}
use Rattle.hsp_dispatch.specs.Fronts.{assigned_by_all}
use Rattle.hsp_dispatch.specs.Laws.{IsServedWhole}
use Rattle.hsp_dispatch.proofs.Dispatching.{is_spent_after_all}
use Rattle.hsp_dispatch.proofs.FrontLaws.{is_spent_together}
use Rattle.hsp_dispatch.proofs.SharedOut.{has_arc}

-- ---- what a row gets over its own arcs

-- what an arc gives the row
abbrev given_to : Plan → ℕ → NetworkArc → ℕ
given_to x row a = if a.row == row then x a.row a.site else 0

-- what the arcs of a row are given, by their sites
own_list : (x : Plan) (row : ℕ) (arcs : List Arc)
    → sum_by (given_to x row) (map (arc_of row) arcs) ≡ sum_by (λ (arc : Arc). x row arc.site) arcs
own_list x row [] = refl
own_list x row (arc ∷ arcs) =
    let all = sum_by-cons (given_to x row) (arc_of row arc) (map (arc_of row) arcs) in
    grind (arith, all, own_list x row arcs, sum_by-cons (λ (a : Arc). x row a.site) arc arcs)

-- the arcs of another row are given nothing of this one
other_list : (x : Plan) (row i : ℕ) (arcs : List Arc) → i ≢ row → sum_by (given_to x row) (map (arc_of i) arcs) ≡ 0
other_list x row i [] apart = refl
other_list x row i (arc ∷ arcs) apart =
    let all = sum_by-cons (given_to x row) (arc_of i arc) (map (arc_of i) arcs) in
    grind (arith, apart, all, other_list x row i arcs apart)

-- nor are those of all later rows
later_lists : (x : Plan) (row i : ℕ) (lists : List (List Arc)) → row < i
    → sum_by (given_to x row) (arcs_from i lists) ≡ 0
later_lists x row i [] before = refl
later_lists x row i (arcs ∷ lists) before =
    let all = sum_by-append (given_to x row) (map (arc_of i) arcs) (arcs_from (i + 1) lists) in
    let own = other_list x row i arcs (λ same. omega (arith, same, before)) in
    omega (arith, all, own, later_lists x row (i + 1) lists (omega (arith, before)))

-- of all arcs only the row's own are given what the plan sends of it
over_own : (x : Plan) (row i k : ℕ) (lists : List (List Arc)) (own : List Arc) → row ≡ i + k
    → slice_get lists k ≡ Some own
    → sum_by (given_to x row) (arcs_from i lists) ≡ sum_by (λ (arc : Arc). x row arc.site) own
over_own x row i k [] own is at = absurd (cc)
over_own x row i zero (arcs ∷ lists) own is at =
    let same : arcs ≡ own = cc in
    let here : i ≡ row = omega (arith, is) in
    let first : sum_by (given_to x row) (map (arc_of i) arcs) ≡ sum_by (λ (arc : Arc). x row arc.site) own =
    rw (here, same) (own_list x row own) in
    let others = later_lists x row (i + 1) lists (omega (arith, here)) in
    sum_by-append (given_to x row) (map (arc_of i) arcs) (arcs_from (i + 1) lists) ∙ omega (arith, first, others)
over_own x row i (suc k) (arcs ∷ lists) own is at =
    let first = other_list x row i arcs (λ same. omega (arith, same, is)) in
    let others = over_own x row (i + 1) k lists own (omega (arith, is)) at in
    sum_by-append (given_to x row) (map (arc_of i) arcs) (arcs_from (i + 1) lists) ∙ omega (arith, first, others)

-- ---- one arc to each site

-- how many arcs are to a site
abbrev count_to : ℕ → List Arc → ℕ
count_to site arcs = sum_by (λ (arc : Arc). if arc.site == site then 1 else 0) arcs

-- arcs to later sites do not lead to this one
none_to : (site : ℕ) (arcs : List Arc) → AllByRecursion (λ (later : Arc). site < later.site) arcs
    → count_to site arcs ≡ 0
none_to site [] later = refl
none_to site (arc ∷ arcs) later =
    let all = sum_by-cons (λ (a : Arc). if a.site == site then 1 else 0) arc arcs in
    grind (arith, later.0, all, none_to site arcs later.1)

-- one arc of a row leads to a site
one_to : (site : ℕ) (arcs : List Arc) (arc : Arc) → IsAscending arcs → arc_to site (Some arcs) ≡ Some arc
    → count_to site arcs ≡ 1
one_to site [] arc up found = absurd (cc)
one_to site (first ∷ arcs) arc up found =
    let all = sum_by-cons (λ (a : Arc). if a.site == site then 1 else 0) first arcs in
    let none = λ (here : first.site ≡ site). none_to site arcs (rw here at up.0) in
    grind (arith, all, none, one_to site arcs arc up.1)

-- ---- the sum over all sites

-- the sites of arcs are sites of the instance
sites_inside : (it : Instance) (arcs : List Arc) → IsInstance it → AllByRecursion (IsArc it.servers) arcs
    → AllByRecursion (λ (arc : Arc). arc.site < length it.sites) arcs
sites_inside it [] is each = tt
sites_inside it (arc ∷ arcs) is each =
    let own = each.0 in
    let server =
    all_at (IsServer it.sites (length it.hosts)) it.servers arc.server own.server is.servers.each own.is_server in (
      rw own.same_site (slice_get_within it.sites own.server.site server.place.site server.place.is_site),
      sites_inside it arcs is each.1,
    )

-- what a row's arcs are given is what the plan sends of it to all sites
by_sites : (it : Instance) (x : Plan) (row : ℕ) (arcs : List Arc) → IsInstance it → Feasible (network_of it) x
    → AreArcs it.servers arcs → slice_get it.arcs row ≡ Some arcs
    → sum_by (λ (arc : Arc). x row arc.site) arcs ≡ sum_below (length it.sites) (λ site. x row site)
by_sites it x row arcs is feasible are at =
    sum_by_same_all (λ (arc : Arc). x row arc.site) (λ (arc : Arc). x row arc.site * 1) arcs (λ i d l. omega arith)
    ∙ by_key (λ (arc : Arc). arc.site) (λ (arc : Arc). 1) (λ site. x row site) (length it.sites) arcs
    (λ i d l.
    All-from_recursion (λ (arc : Arc). arc.site < length it.sites) arcs (sites_inside it arcs is are.each) i d l)
    ∙ sum_below_same (length it.sites) (λ site. x row site * count_to site arcs) (λ site. x row site) each_site
  where
    each_site : (site : ℕ) → site < length it.sites → x row site * count_to site arcs ≡ x row site
    each_site site inside = elim (cases_Bool (is_allowed (network_of it) row site)) [
      | inl allowed ↦
          let has = has_arc it row site allowed in
          let found : arc_to site (Some arcs) ≡ Some has.arc = rw at at has.is_arc in
          rw (one_to site arcs has.arc are.ascending found) (omega arith)
      | inr not_allowed ↦ rw (feasible.allowed row site not_allowed) (omega arith)
    ]

-- the sites together get the number of the row
pub whole_row : (it : Instance) (x : Plan) (row : ℕ) (own : Row) → IsInstance it → Feasible (network_of it) x
    → slice_get it.rows row ≡ Some own
    → sum_below (length it.sites) (λ site. x row site) ≡ own.count
whole_row it x row own is feasible at =
    let inside : row < length it.rows = slice_get_within it.rows row own at in
    let list = there it.arcs row (omega (arith, is.one_list_a_row)) in
    let are = all_at (AreArcs it.servers) it.arcs row list.0 is.arcs list.1 in
    let met = feasible.flow.met row (rw (length-map it.rows (λ (r : Row). r.count)) inside) in
    let asked : slice_index (map (λ (r : Row). r.count) it.rows) row ≡ own.count =
    get_or-map (λ (r : Row). r.count) it.rows row own 0 inside
    ∙ ap (λ (r : Row). r.count) (get_or_from_slice_get it.rows row own own at) in
    sym (by_sites it x row list.0 is feasible are list.1)
    ∙ sym (over_own x row 0 row it.arcs list.0 (omega arith) list.1) ∙ met ∙ asked

-- a row is served whole
pub is_served_whole : IsServedWhole
is_served_whole it x earlier entry row own is feasible at found spent =
    sum_below_same (length it.sites) (λ site. assigned_in it x earlier row site) (λ site. x row site)
    (λ site inside. is_spent_after_all it x earlier entry row site found spent inside)
    ∙ whole_row it x row own is feasible at

-- fronts together serve a row whole
pub is_served_together : IsServedTogether
is_served_together it fronts x events row own is feasible some at was =
    sum_below_same (length it.sites) (λ site. assigned_by_all it fronts x events row site) (λ site. x row site)
    (λ site inside. is_spent_together it fronts x events row site some was inside)
    ∙ whole_row it x row own is feasible at
