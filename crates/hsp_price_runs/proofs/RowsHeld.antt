-- A row that is held, behind those that are.
use Rattle.std.proofs.Common.{◌≡◌, ◌≤◌, ◌<◌, ◌+◌, ◌^◌, ◌∙◌, ◌∷◌, ◌++◌, ◌⊎◌, ℕ, zero, suc, true, List, [], Option, None}
use Rattle.std.proofs.Common.{Some, ap, arith, inl, inr, length, map, refl, subst, sym}
use Rattle.std.specs.List.{AllByRecursion, list_any, slice_get}
use Rattle.std.specs.Str.{bytes_eq}
use Rattle.std.proofs.lemmas.Bool.{eq-eqb, ne_eqb}
use Rattle.std.proofs.lemmas.List.{length-append, length-map, map-append}
use Rattle.std.proofs.lemmas.List.Elements.{All-from_recursion}
use Rattle.std.proofs.lemmas.List.Sums.{sum_by_push}
use Rattle.std.proofs.lemmas.Option.{slice_get_within}
use Rattle.hsp_text.proofs.Lists.{zip_push}
use Rattle.hsp_text.specs.declared.limits.TheConstants.{MOST_LOG_REGIONS, MOST_SERVERS}
use Rattle.hsp_tables.specs.Costs.{CostEntry}
use Rattle.hsp_instance.specs.Building.{arc_to, arcs_from, cost_of}
use Rattle.hsp_instance.specs.Instance.{Row, Site, regions_of}
use Rattle.hsp_instance.specs.RowArcs.{ArcsInTurn, AreArcsOf, IsWithin, row_named, with_region as seen_region}
use Rattle.hsp_instance.specs.declared.arc.Arc.{Arc}
use Rattle.hsp_instance.proofs.ArcsWithin.{arcs_within}
use Rattle.hsp_price_check.proofs.KindCounts.{few_regions, region_added}
use Rattle.hsp_prices.specs.Rows.{Service}
use Rattle.hsp_prices.specs.KeptRows.{IsRow, KeptRow}
use Rattle.hsp_price_plan.specs.Entries.{AreServers}
use Rattle.hsp_price_plan.specs.Held.{CanPush, HeldRows, loose_row, with_row}
use Rattle.hsp_price_plan.specs.Regions.{RegionArcs, no_region, region_at, region_with, with_region, HasShape}
use Rattle.hsp_price_plan.proofs.LooseRows.{bare, own_shape, region_is, shapes_with}
use Rattle.hsp_price_plan.specs.Grouping.{asked_in}
use Rattle.hsp_price_check.specs.Passed.{capped}
use Rattle.hsp_price_check.proofs.Capping.{kept_more}
use Rattle.hsp_price_check.proofs.RegionPlaces.{among_at, place_low, placed_before}
use Rattle.hsp_price_runs.specs.Holding.{AreHeldBy, HasHeld, IsHolder}
use Rattle.hsp_price_runs.specs.declared.holder.RowHolder.{RowHolder}

-- an arc at most leads to a site
few_to : (handle : List ℕ) (n first : ℕ) (site : Site) (cost : Option ℕ)
    → length (arc_to handle n first site cost) ≤ 1
few_to handle n first site None = omega arith
few_to handle n first site (Some cost) = omega arith

-- a row has no more arcs than there are sites
few_arcs : (costs : List CostEntry) (row : Row) (n first : ℕ) (sites : List Site)
    → length (arcs_from costs row n first sites) ≤ length sites
few_arcs costs row n first [] = omega arith
few_arcs costs row n first (site ∷ sites) =
    let one = arc_to row.handle n first site (cost_of costs row.region site.name) in
    let rest = arcs_from costs row (n + 1) (first + length site.servers) sites in
    omega (
      arith,
      length-append one rest,
      few_to row.handle n first site (cost_of costs row.region site.name),
      few_arcs costs row (n + 1) (first + length site.servers) sites,
    )

-- servers that are there have room in an entry
low_servers : (n : ℕ) (arcs : List Arc) → n ≤ MOST_SERVERS → AllByRecursion (IsWithin n) arcs → AreServers arcs
low_servers n [] few all = tt
low_servers n (arc ∷ arcs) few all = (omega (arith, few, all.0.server), low_servers n arcs few all.1)

-- a name that was seen stands where it did, and a new one stands last
stood : (names : List (List ℕ)) (name : List ℕ) (k : ℕ) → slice_get (seen_region names name) k ≡ Some name
    → k < length names → slice_get names k ≡ Some name
stood names name k at less = elim (placed_before names name name k (list_any (bytes_eq name) names) refl at) [
  | inl here ↦ here
  | inr last ↦ absurd (omega (arith, less, last.0))
]

-- the name of a region at a number
named_at : (regions : List RegionArcs) (k : ℕ) (name : List ℕ)
    → slice_get (map (λ (r : RegionArcs). r.name) regions) k ≡ Some name → (region_at regions k).name ≡ name
named_at [] k name at = absurd (cc (at))
named_at (region ∷ regions) zero name at = cc (at)
named_at (region ∷ regions) (suc k) name at = named_at regions k name at

module _ (at : Service) (rows : List Row) (found after : ArcsInTurn) (held : HeldRows) (asked : ℕ)
    (are : AreHeldBy at rows found held asked) (region handle : List ℕ) (number : ℕ)
    (costs : after.costs ≡ found.costs) (sites : after.sites ≡ found.sites)
    (regions : after.regions ≡ seen_region found.regions region)
    (named : slice_get after.regions number ≡ Some region)
    (arcs_are : AreArcsOf found.costs found.sites region handle after.arcs)
    (known : (list_any (bytes_eq region) found.regions ≡ true) ⊎ (length found.regions < MOST_LOG_REGIONS)) where
  -- the arcs that were found are those of the service
  own_arcs : (count : ℕ) → after.arcs ≡ arcs_from at.costs (row_named region handle count) 0 0 at.sites
  own_arcs count =
      let row = row_named region handle count in
      arcs_are count ∙ ap (λ (table : List CostEntry). arcs_from table row 0 0 found.sites) are.costs_are
      ∙ ap (λ (list : List Site). arcs_from at.costs row 0 0 list) are.sites_are

  -- the region stands at the number
  seen : after.regions ≡ seen_region (regions_of rows) region
  seen = regions ∙ ap (λ list. seen_region list region) are.regions_are

  -- among the names of the rows, too
  place : slice_get (seen_region (regions_of rows) region) number ≡ Some region
  place = ap (λ list. slice_get list number) (sym seen) ∙ named

  -- as many regions are held as rows name
  many : length held.regions ≡ length (regions_of rows)
  many = sym (length-map held.regions (λ (r : RegionArcs). r.name)) ∙ ap length are.names

  -- with the region there are no more than there may be
  few : length (seen_region (regions_of rows) region) ≤ MOST_LOG_REGIONS
  few =
      few_regions (regions_of rows) region are.few_regions
      (subst
      (λ (list : List (List ℕ)). (list_any (bytes_eq region) list ≡ true) ⊎ (length list < MOST_LOG_REGIONS))
      are.regions_are known)

  -- a region that is held already has them, too
  own_region : number < length held.regions → region_at held.regions number ≡ region_with region after.arcs
  own_region less =
      let before = stood (regions_of rows) region number place (omega (arith, less, many)) in
      let own = region_at held.regions number in
      let has : HasShape at own = All-from_recursion (HasShape at) held.regions are.shapes number no_region less in
      region_is at region after.arcs (own_shape at region handle after.arcs (own_arcs 0)) own has
      (named_at held.regions number region (ap (λ list. slice_get list number) are.names ∙ before))

  -- the row can be pushed
  pub can_push : length held.rows < 2 ^ 32 → CanPush held number region after.arcs
  can_push room =
      let row = row_named region handle 0 in
      let within : AllByRecursion (IsWithin (length at.servers)) (arcs_from at.costs row 0 0 at.sites) =
      arcs_within at.costs are.costs.keyed.each row (length at.servers) 0 0 at.sites are.service.sites.each
      (omega (arith, are.service.servers.count)) in
      record {
        few = room;
        sites = omega (arith, are.room, ap length (own_arcs 0), few_arcs at.costs row 0 0 at.sites);
        servers =
            low_servers (length at.servers) after.arcs are.service.servers.few
            (subst (λ (arcs : List Arc). AllByRecursion (IsWithin (length at.servers)) arcs) (sym (own_arcs 0)) within);
        few_regions = omega (arith, few, slice_get_within (seen_region (regions_of rows) region) number region place);
        in_turn = omega (arith, many, place_low (regions_of rows) region region number place);
        known = own_region;
      }

  -- the names with that of the row
  names_more : map (λ (r : RegionArcs). r.name) (with_region held.regions number region after.arcs)
      ≡ seen_region (regions_of rows) region
  names_more =
      let names = regions_of rows in
      elim (placed_before names region region number (list_any (bytes_eq region) names) refl place) [
        | inl here ↦
            let within = slice_get_within names number region here in
            rw (
              ne_eqb number (length held.regions) (λ same. omega (arith, within, same, many)),
              among_at names region number here,
            ) are.names
        | inr last ↦
            rw (eq-eqb number (length held.regions) (last.0 ∙ sym many), last.2)
            (map-append (λ (r : RegionArcs). r.name) held.regions (region_with region after.arcs ∷ [])
            ∙ ap (λ list. list ++ region ∷ []) are.names)
      ]

  -- and then the rows with it are held
  pub one_more : (count sum : ℕ) → sum ≡ capped (asked + count)
      → AreHeldBy at (rows ++ row_named region handle count ∷ []) after
      (with_row held number region after.arcs count) sum
  one_more count sum is =
      let row : Row = row_named region handle count in
      let own : KeptRow = loose_row region after.arcs count in
      let one : IsRow at row own = record { region = refl; arcs = bare after.arcs ∙ own_arcs count; count = refl } in
      record {
        service = are.service;
        costs = are.costs;
        costs_are = costs ∙ are.costs_are;
        sites_are = sites ∙ are.sites_are;
        regions_are = seen ∙ sym (region_added rows row);
        few_regions =
            subst (λ (list : List (List ℕ)). length list ≤ MOST_LOG_REGIONS) (sym (region_added rows row)) few;
        room = are.room;
        names = names_more ∙ sym (region_added rows row);
        shapes =
            shapes_with at region after.arcs (own_shape at region handle after.arcs (own_arcs 0)) held.regions number
            are.shapes;
        rows_are = zip_push (IsRow at) rows held.rows row own are.rows_are one;
        asked_is =
            is ∙ ap (λ n. capped (n + count)) are.asked_is ∙ kept_more (asked_in held.rows) count
            ∙ ap capped (sym (sum_by_push (λ (r : KeptRow). r.count) held.rows own));
      }

-- a holder that takes the row holds it behind those that it held
pub taken_more : {P : Type 0} (first old new : RowHolder P) (rows : List Row) → HasHeld first rows old
    → (after : ArcsInTurn) (region handle : List ℕ) (number count : ℕ) → after.costs ≡ old.arcs.costs
    → after.sites ≡ old.arcs.sites → after.regions ≡ seen_region old.arcs.regions region
    → slice_get after.regions number ≡ Some region
    → AreArcsOf old.arcs.costs old.arcs.sites region handle after.arcs
    → (list_any (bytes_eq region) old.arcs.regions ≡ true) ⊎ (length old.arcs.regions < MOST_LOG_REGIONS)
    → new.arcs ≡ after → new.rows ≡ with_row old.rows number region after.arcs count
    → new.asked ≡ capped (old.asked + count)
    → HasHeld first (rows ++ row_named region handle count ∷ []) new
    × (length (regions_of (rows ++ row_named region handle count ∷ [])) ≤ MOST_LOG_REGIONS)
taken_more first old new rows has after region handle number count costs sites regions named arcs_are known found held
    sum =
    let all = rows ++ row_named region handle count ∷ [] in
    let more : (own : Service) → IsHolder own rows old → IsHolder own all new =
    λ own are.
    subst (λ (a : ArcsInTurn). AreHeldBy own all a new.rows new.asked) (sym found)
    (subst (λ (h : HeldRows). AreHeldBy own all after h new.asked) (sym held)
    (one_more own rows old.arcs after old.rows old.asked are region handle number costs sites regions named arcs_are
    known count new.asked sum)) in (
      record { at = has.at; fresh = has.fresh; held = λ own fresh. more own (has.held own fresh) },
      (more has.at (has.held has.at has.fresh)).few_regions,
    )
