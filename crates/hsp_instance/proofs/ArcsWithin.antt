-- The arcs of a row lead to servers that are there, at costs within their limit.
use Rattle.std.proofs.Common.{◌≡◌, ◌≤◌, ◌<◌, ◌+◌, ℕ, List, [], ◌∷◌, Option, Some, None, length, refl, arith}
use Rattle.std.proofs.lemmas.Nat.{mod_below}
use Rattle.std.specs.List.{AllByRecursion}
use Rattle.hsp_hash.specs.Place.{server_place}
use Rattle.hsp_tables.specs.Costs.{CostEntry, IsCostEntry}
use Rattle.hsp_instance.specs.Building.{arc_to, arcs_from, cost_of}
use Rattle.hsp_instance.specs.Instance.{HasServer, Row, Site, servers_of}
use Rattle.hsp_instance.specs.RowArcs.{IsWithin}
use Rattle.hsp_instance.proofs.Limits.{cost_within}
use Rattle.hsp_text.proofs.Lists.{all_append}

module _ (costs : List CostEntry) (each : AllByRecursion IsCostEntry costs) (row : Row) (servers : ℕ) where
  -- the arc to a site does, where its servers are there
  to : (n first : ℕ) (site : Site) (cost : Option ℕ) → cost_of costs row.region site.name ≡ cost → HasServer site
      → first + length site.servers ≤ servers
      → AllByRecursion (IsWithin servers) (arc_to row.handle n first site cost)
  to n first site None is some room = tt
  to n first site (Some cost) is some room =
      let place = server_place site.option row.handle (length site.servers) in
      let below : place < length site.servers = mod_below _ (length site.servers) some in (
        record { server = omega arith; cost = cost_within costs row.region site.name cost each is },
        tt,
      )

  -- so do the arcs to the sites from a site on
  pub arcs_within : (n first : ℕ) (sites : List Site) → AllByRecursion HasServer sites
      → first + servers_of sites ≤ servers → AllByRecursion (IsWithin servers) (arcs_from costs row n first sites)
  arcs_within n first [] some room = tt
  arcs_within n first (site ∷ more) some room =
      all_append (IsWithin servers) (arc_to row.handle n first site (cost_of costs row.region site.name))
      (arcs_from costs row (n + 1) (first + length site.servers) more)
      (to n first site (cost_of costs row.region site.name) refl some.0 (omega arith))
      (arcs_within (n + 1) (first + length site.servers) more some.1 (omega arith))
