-- The arcs of a row, site by site.
use Rattle.std.proofs.Common.{◌≡◌, ◌≤◌, ◌<◌, ◌+◌, ℕ, suc, List, [], ◌∷◌, ◌++◌, Option, Some, None, drop, length, refl}
use Rattle.std.proofs.Common.{ap, arith}
use Rattle.std.specs.List.{AllByRecursion, slice_get}
use Rattle.hsp_tables.specs.Costs.{CostEntry}
use Rattle.hsp_instance.specs.Building.{arc_to, arcs_from, cost_of}
use Rattle.hsp_instance.specs.Instance.{IsAscending, Row, Site}
use Rattle.hsp_instance.specs.RegionCosts.{arcs_by, costs_at}
use Rattle.hsp_instance.specs.declared.arc.Arc.{Arc}
use Rattle.hsp_instance.proofs.Lists.{drop_at}
use Rattle.hsp_text.proofs.Lists.{all_append}

-- the arcs by the costs of the row's region are those of the row
pub by_region : (table : List CostEntry) (row : Row) (n first : ℕ) (sites : List Site)
    → arcs_by row.handle n first sites (costs_at table row.region sites) ≡ arcs_from table row n first sites
by_region table row n first [] = refl
by_region table row n first (site ∷ more) =
    ap (λ arcs. arc_to row.handle n first site (cost_of table row.region site.name) ++ arcs)
    (by_region table row (n + 1) (first + length site.servers) more)

-- the arcs from a site on are that to the site and the rest
pub arcs_next : (handle : List ℕ) (n first : ℕ) (sites : List Site) (costs : List (Option ℕ)) (site : Site)
    (cost : Option ℕ) → slice_get sites n ≡ Some site → slice_get costs n ≡ Some cost
    → arcs_by handle n first (drop n sites) (drop n costs) ≡ arc_to handle n first site cost
    ++ arcs_by handle (n + 1) (first + length site.servers) (drop (n + 1) sites) (drop (n + 1) costs)
arcs_next handle n first sites costs site cost at here = rw (drop_at sites n site at, drop_at costs n cost here) refl

module _ (table : List CostEntry) (row : Row) where
  -- at most one arc to each site
  few_to : (n first : ℕ) (site : Site) (arcs : List Arc) (m : ℕ) (cost : Option ℕ) → length arcs ≤ m
      → length (arc_to row.handle n first site cost ++ arcs) ≤ suc m
  few_to n first site arcs m None less = omega arith
  few_to n first site arcs m (Some cost) less = omega arith

  -- a row has no more arcs than there are sites
  pub arcs_few : (n first : ℕ) (sites : List Site) → length (arcs_from table row n first sites) ≤ length sites
  arcs_few n first [] = omega arith
  arcs_few n first (site ∷ more) =
      few_to n first site (arcs_from table row (n + 1) (first + length site.servers) more) (length more)
      (cost_of table row.region site.name) (arcs_few (n + 1) (first + length site.servers) more)

  -- the arcs from a site on are to sites after those before it
  after_to : (m n first : ℕ) (site : Site) (cost : Option ℕ) → m < n
      → AllByRecursion (λ (later : Arc). m < later.site) (arc_to row.handle n first site cost)
  after_to m n first site None less = tt
  after_to m n first site (Some cost) less = (less, tt)

  -- the arcs to later sites have later numbers
  arcs_after : (m n first : ℕ) (sites : List Site) → m < n
      → AllByRecursion (λ (later : Arc). m < later.site) (arcs_from table row n first sites)
  arcs_after m n first [] less = tt
  arcs_after m n first (site ∷ more) less =
      all_append (λ (later : Arc). m < later.site) (arc_to row.handle n first site (cost_of table row.region site.name))
      (arcs_from table row (n + 1) (first + length site.servers) more)
      (after_to m n first site (cost_of table row.region site.name) less)
      (arcs_after m (n + 1) (first + length site.servers) more (omega arith))

  -- an arc to an earlier site may stand before ascending arcs
  ascending_to : (n first : ℕ) (site : Site) (arcs : List Arc) (cost : Option ℕ)
      → AllByRecursion (λ (later : Arc). n < later.site) arcs → IsAscending arcs
      → IsAscending (arc_to row.handle n first site cost ++ arcs)
  ascending_to n first site arcs None after ascending = ascending
  ascending_to n first site arcs (Some cost) after ascending = (after, ascending)

  -- the arcs of a row ascend by their sites
  pub arcs_ascending : (n first : ℕ) (sites : List Site) → IsAscending (arcs_from table row n first sites)
  arcs_ascending n first [] = tt
  arcs_ascending n first (site ∷ more) =
      ascending_to n first site (arcs_from table row (n + 1) (first + length site.servers) more)
      (cost_of table row.region site.name)
      (arcs_after n (n + 1) (first + length site.servers) more (omega arith))
      (arcs_ascending (n + 1) (first + length site.servers) more)
