-- The arcs of a row by the row's region and their servers.
use Rattle.std.proofs.Common.{◌≡◌, ℕ, suc, ◌+◌, ◌<◌, ◌∙◌, List, [], ◌∷◌, Option, Some, None, length, map, refl, ap}
use Rattle.std.proofs.Common.{ap₂, sym, arith, add-zero, take, zero-add}
use Rattle.std.specs.List.{AllByRecursion, slice_get}
use Rattle.std.proofs.lemmas.Nat.{mod_below}
use Rattle.std.proofs.lemmas.Option.{slice_get_within}
use Rattle.hsp_hash.specs.Place.{server_place}
use Rattle.hsp_text.proofs.Lists.{all_append}
use Rattle.hsp_instance.specs.Building.{arc_to, arcs_from, cost_of}
use Rattle.hsp_instance.specs.Instance.{HasServer, Row, Server, Site, number_at, servers_of as count_servers}
use Rattle.hsp_instance.specs.declared.arc.Arc.{Arc}
use Rattle.hsp_instance.proofs.SiteSums.{servers_of-taken}
use Rattle.hsp_prices.specs.Rows.{Service}
use Rattle.hsp_prices.specs.Least.{arcs_of, servers_of}
use Rattle.hsp_prices.specs.Shown.{IsService}
use Rattle.hsp_prices.specs.Sums.{cost_at, cost_or_none, server_cost, site_cost}

-- the number of a server's site
abbrev site_of_server : Option Server → ℕ
site_of_server None = 0
site_of_server (Some server) = server.site

-- the arc of a region to a server
abbrev pub arc_for : Service → List ℕ → ℕ → Arc
arc_for at region j =
    record { site = site_of_server (slice_get at.servers j); server = j; cost = cost_at at region j }

-- an arc is that of its region to its server, which is there
pub record IsOwn (at : Service) (region : List ℕ) (arc : Arc) : Type 0 where
  pub there : arc.server < length at.servers
  pub same : arc ≡ arc_for at region arc.server

module _ (at : Service) where
  -- such arcs are known by their servers
  pub by_servers : (region : List ℕ) (arcs : List Arc) → AllByRecursion (IsOwn at region) arcs
      → map (arc_for at region) (servers_of arcs) ≡ arcs
  by_servers region [] own = refl
  by_servers region (a ∷ arcs) own = ap₂ (λ x xs. x ∷ xs) (sym own.0.same) (by_servers region arcs own.1)

  module _ (is : IsService at) (row : Row) where
    -- the arcs to the sites from a site on are such
    own_from : (n first : ℕ) (sites : List Site) → ((k : ℕ) → slice_get at.sites (n + k) ≡ slice_get sites k)
        → first ≡ count_servers (take n at.sites) → AllByRecursion HasServer sites
        → AllByRecursion (IsOwn at row.region) (arcs_from at.costs row n first sites)
    own_from n first [] same before have = tt
    own_from n first (site ∷ more) same before have =
        all_append (IsOwn at row.region) (arc_to row.handle n first site (cost_of at.costs row.region site.name)) _
        (to (cost_of at.costs row.region site.name) refl)
        (own_from (n + 1) (first + length site.servers) more (λ k. let e : n + 1 + k ≡ n + suc k = omega arith in
        rw e (same (suc k))) (let next = servers_of-taken at.sites n site here in omega arith) have.1)
      where
        here : slice_get at.sites n ≡ Some site
        here = rw add-zero at (same 0)

        to : (cost : Option ℕ) → cost_of at.costs row.region site.name ≡ cost
            → AllByRecursion (IsOwn at row.region) (arc_to row.handle n first site cost)
        to None none = tt
        to (Some c) known =
            let place = server_place site.option row.handle (length site.servers) in
            let stands = is.servers.at_place n place site here (mod_below _ (length site.servers) have.0) in
            let number : first + place ≡ number_at at.sites n place = ap (λ b. b + place) before in
            let found : slice_get at.servers (first + place) ≡ Some stands.server = rw number stands.is_server in
            let own_site : n ≡ site_of_server (slice_get at.servers (first + place)) =
            sym (ap site_of_server found ∙ stands.same_site) in
            let own_cost : c ≡ cost_at at row.region (first + place) =
            sym
            (ap (server_cost at row.region) found
            ∙ ap (λ s. site_cost at row.region (slice_get at.sites s)) stands.same_site
            ∙ ap (site_cost at row.region) here ∙ ap cost_or_none known) in
            let arc : ℕ → ℕ → Arc = λ s v. record { site = s; server = first + place; cost = v } in (
              record {
                there = slice_get_within at.servers (first + place) stands.server found;
                same = ap₂ arc own_site own_cost;
              },
              tt,
            )

    -- the arcs of the row are such
    pub own_arcs : AllByRecursion (IsOwn at row.region) (arcs_of at row)
    own_arcs = own_from 0 0 at.sites (λ k. rw zero-add refl) refl is.sites.each
