-- The arcs that rows of a service keep are those of their regions to their servers.
use Rattle.std.proofs.Common.{All, List, [], ◌∷◌, filter, map, subst, sym}
use Rattle.std.specs.List.{AllByRecursion}
use Rattle.std.proofs.lemmas.List.Elements.{All-from_recursion}
use Rattle.hsp_instance.specs.Instance.{Row}
use Rattle.hsp_instance.specs.declared.arc.Arc.{Arc}
use Rattle.hsp_instance.proofs.Lists.{all_map, all_so}
use Rattle.hsp_prices.specs.Rows.{Service}
use Rattle.hsp_prices.specs.Shown.{IsService}
use Rattle.hsp_prices.proofs.Lists.{all_kept}
use Rattle.hsp_prices.proofs.ServerArcs.{IsOwn, arc_for, by_servers, own_arcs}
use Rattle.hsp_prices.specs.KeptRows.{IsRow, KeptArc, KeptRow, arcs_in, kept_in}
use Rattle.hsp_prices.specs.Solved.{AreRows}
use Rattle.hsp_prices.proofs.RowPairs.{with_first}
use Rattle.hsp_price_plan.specs.Grouping.{AreArcsBy, ServicesGiveArcs}

-- what holds of all arcs holds of those that are kept
kept_so : (P : Arc → Type 0) (row : KeptRow) → AllByRecursion P (arcs_in row) → AllByRecursion P (kept_in row)
kept_so P row all =
    all_map (λ (a : KeptArc). P a.arc) P (λ a. a.arc) (filter (λ a. a.is_kept) row.arcs) (λ a p. p)
    (all_kept (λ (a : KeptArc). P a.arc) (λ a. a.is_kept) row.arcs (unmap row.arcs all))
  where
    unmap : (arcs : List KeptArc) → AllByRecursion P (map (λ a. a.arc) arcs)
        → AllByRecursion (λ (a : KeptArc). P a.arc) arcs
    unmap [] more = tt
    unmap (a ∷ arcs) more = (more.0, unmap arcs more.1)

module _ (at : Service) (is : IsService at) where
  -- a kept row of the service has the arcs of its region to their servers
  given_in : (row : Row) (kept : KeptRow) → IsRow at row kept → AreArcsBy (arc_for at) kept.region (kept_in kept)
  given_in row kept own =
      subst (λ r. AreArcsBy (arc_for at) r (kept_in kept)) (sym own.region)
      (by_servers at row.region (kept_in kept)
      (kept_so (IsOwn at row.region) kept
      (subst (AllByRecursion (IsOwn at row.region)) (sym own.arcs) (own_arcs at is row))))

  -- so have all
  all_given : (rows : List Row) (kept : List KeptRow) → AreRows at rows kept
      → All (λ row. AreArcsBy (arc_for at) row.region (kept_in row)) kept
  all_given rows kept are =
      All-from_recursion (λ (row : KeptRow). AreArcsBy (arc_for at) row.region (kept_in row)) kept
      (all_so (λ k. (row : Row) × IsRow at row k)
      (λ (row : KeptRow). AreArcsBy (arc_for at) row.region (kept_in row)) kept
      (λ k own. given_in own.0 k own.1) (with_first (IsRow at) rows kept are))

-- each service gives the arcs of its rows
pub services_give : ServicesGiveArcs
services_give at is = (arc_for at, all_given at is)
