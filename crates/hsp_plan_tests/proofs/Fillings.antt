-- Rows of a service that are added one by one.
use Rattle.std.proofs.Common.{◌≡◌, ◌≤◌, ◌<◌, ◌+◌, ◌∙◌, ◌∷◌, ◌++◌, ◌==◌}
use Rattle.std.proofs.Common.{ℕ, true, false, List, [], All, ap, arith}
use Rattle.std.proofs.Common.{length, refl, slice_index_or, subst, sym}
use Rattle.std.specs.Prelude.{if◌then◌else◌}
use Rattle.std.specs.List.{AllByRecursion}
use Rattle.std.proofs.lemmas.List.{length-append}
use Rattle.std.proofs.lemmas.List.Elements.{All-from_recursion, recursion_from_All}
use Rattle.std.proofs.lemmas.List.Sums.{sum_by_push}
use Rattle.hsp_text.proofs.Lists.{zip_push}
use Rattle.hsp_text.specs.declared.limits.TheConstants.{MOST_LOG_REGIONS, MOST_SERVERS}
use Rattle.hsp_tables.specs.Costs.{CostEntry}
use Rattle.hsp_instance.specs.Building.{arcs_from}
use Rattle.hsp_instance.specs.Instance.{Row, Site}
use Rattle.hsp_instance.specs.RowArcs.{ArcsInTurn, AreArcsOf, IsWithin, row_named}
use Rattle.hsp_instance.specs.declared.arc.Arc.{Arc}
use Rattle.hsp_prices.specs.Rows.{Service}
use Rattle.hsp_prices.specs.Groups.{Group}
use Rattle.hsp_prices.specs.KeptRows.{IsRow, KeptRow}
use Rattle.hsp_price_plan.specs.Held.{CanPush, HeldRows, loose_row, region_named, with_each, with_row}
use Rattle.hsp_price_plan.specs.Regions.{RegionArcs, no_region, region_at, region_with, shape_of, with_region, HasShape}
use Rattle.hsp_price_plan.proofs.StillRows.{LeavesRows}
use Rattle.hsp_price_plan.proofs.LooseRows.{bare, own_shape, region_is, shape_in, shapes_with}
use Rattle.hsp_price_check.specs.declared.numbers.ServiceNumbers.{ServiceNumbers}
use Rattle.hsp_price_plan.specs.Solving.{HasArcsWithin}
use Rattle.hsp_price_plan.specs.Planning.{AreOfSome}
use Rattle.hsp_price_plan.proofs.HeldRows.{held_still}
use Rattle.hsp_plan_tests.specs.Filling.{HasRows}

-- the arcs that were found are those of the service
pub service_arcs : (at : Service) (found : ArcsInTurn) → found.costs ≡ at.costs → found.sites ≡ at.sites
    → (region handle : List ℕ) (arcs lent : List Arc) → AreArcsOf found.costs found.sites region handle arcs
    → lent ≡ arcs → AreArcsOf at.costs at.sites region handle lent
service_arcs at found costs sites region handle arcs lent are same count =
    let row = row_named region handle count in
    same ∙ are count ∙ ap (λ (table : List CostEntry). arcs_from table row 0 0 found.sites) costs
    ∙ ap (λ (list : List Site). arcs_from at.costs row 0 0 list) sites

-- how many regions there are with that of a row
pub regions_with : (regions : List RegionArcs) (number : ℕ) (name : List ℕ) (arcs : List Arc)
    → length (with_region regions number name arcs)
    ≡ (if number == length regions then length regions + 1 else length regions)
regions_with regions number name arcs =
    elim (number == length regions) as (λ b.
    length (if b then regions ++ region_with name arcs ∷ [] else regions)
    ≡ (if b then length regions + 1 else length regions)) [
      | true ↦ length-append regions (region_with name arcs ∷ [])
      | false ↦ refl
    ]

module _ (at : Service) (held : HeldRows) (has : HasRows at held) (region handle : List ℕ) (arcs : List Arc)
    (are : AreArcsOf at.costs at.sites region handle arcs) where
  -- its arcs have the sites and costs of the region
  shape : shape_of arcs ≡ shape_in at region
  shape = own_shape at region handle arcs (are 0)

  -- a region that is there already has them, too
  known : (number : ℕ) → number < length held.regions → region_named held number ≡ region
      → region_at held.regions number ≡ region_with region arcs
  known number less named =
      let own = region_at held.regions number in
      region_is at region arcs shape own
      (All-from_recursion (HasShape at) held.regions has.shapes number no_region less) named

  module _ (number : ℕ) (next : number ≤ length held.regions)
      (named : number < length held.regions → region_named held number ≡ region) where
    -- the row can be pushed
    pub can_push : number < MOST_LOG_REGIONS → length arcs ≤ 2 → All (λ (arc : Arc). arc.server < MOST_SERVERS) arcs
        → CanPush held number region arcs
    can_push low few servers = record {
      few = omega (arith, has.few);
      sites = omega (arith, has.room);
      servers = recursion_from_All (λ (arc : Arc). arc.server < MOST_SERVERS) arcs servers;
      few_regions = low;
      in_turn = next;
      known = λ less. known number less (named less);
    }

    -- and then the rows are those of the service
    pub one_more : (count : ℕ) → count ≤ 1000000 → length held.rows < 10000
        → HasRows at (with_row held number region arcs count)
    one_more count low few =
        let row : Row = row_named region handle count in
        let own : KeptRow = loose_row region arcs count in
        let is : IsRow at row own = record { region = refl; arcs = bare arcs ∙ are count; count = refl } in
        let more : length (held.rows ++ own ∷ []) ≡ length held.rows + 1 = length-append held.rows (own ∷ []) in
        record {
          room = has.room;
          shapes = shapes_with at region arcs shape held.regions number has.shapes;
          rows = has.rows ++ row ∷ [];
          rows_are = zip_push (IsRow at) has.rows held.rows row own has.rows_are is;
          asked = omega (arith, has.asked, low, more, sum_by_push (λ (r : KeptRow). r.count) held.rows own);
          few = omega (arith, few, more);
        }

-- ---- rows that keep more of their arcs

-- rows of a service are still those
pub still_some : (f : KeptRow → KeptRow) → LeavesRows f → (numbers : ServiceNumbers) (old new : HeldRows)
    → new ≡ with_each f old → AreOfSome numbers old.rows → AreOfSome numbers new.rows
still_some f leaves numbers old new is some =
    subst (λ (held : HeldRows). AreOfSome numbers held.rows) (sym is)
    (some.0, some.1, held_still f leaves numbers old.rows some.0 some.1 some.2)

-- ---- groups by hand

-- all their arcs lead to servers that are there
pub groups_fit : (n : ℕ) (groups : List Group) → All (λ (group : Group). All (IsWithin n) group.arcs) groups
    → AllByRecursion (HasArcsWithin n) groups
groups_fit n groups all =
    recursion_from_All (HasArcsWithin n) groups
    (λ k d less. recursion_from_All (IsWithin n) (slice_index_or groups k d).arcs (all k d less))
