use Rattle.std.proofs.Common.{◌≡◌, ◌∙◌, ◌⊎◌, ◌<◌, ◌++◌, ◌∷◌, [], List, true, length, ap, sym, subst, refl, arith}
use Rattle.std.specs.List.{AllByRecursion, list_any}
use Rattle.std.specs.Str.{bytes_eq}
use Rattle.hsp_names.specs.Lent.{octets_of}
use Rattle.hsp_tables.specs.Costs.{CostEntry}
use Rattle.hsp_text.specs.declared.limits.TheConstants.{MOST_LOG_REGIONS}
use Rattle.hsp_instance.specs.Building.{arcs_from}
use Rattle.hsp_instance.specs.Instance.{Row, Site, regions_of}
use Rattle.hsp_instance.specs.RowArcs.{IsWithin, row_named, with_region}
use Rattle.hsp_instance.specs.declared.arc.Arc.{Arc}
use Rattle.hsp_instance.proofs.ArcsWithin.{arcs_within}
use Rattle.hsp_price_check.proofs.KindCounts.{few_regions, region_added}
use Rattle.hsp_prices.specs.Rows.{Service}
use Rattle.hsp_prices.specs.Least.{arcs_of}
use Rattle.hsp_price_text.specs.declared.certificate.PriceCertificate.{PriceCertificate}
use Rattle.hsp_price_check.specs.Checking.{IsPassed, judged_plan}
use Rattle.hsp_price_check.specs.PlanPass.{IsOfRow}
use Rattle.hsp_price_check.specs.Regions.{AreRegionSums, cost_by}
use Rattle.hsp_price_check.proofs.RegionPlaces.{place_low}
use Rattle.hsp_price_check.proofs.RegionSteps.{regions_more}
use Rattle.hsp_price_check.proofs.checking.PriceCheck.add.Goals as goal
use Rattle.hsp_price_check.proofs.checking.PriceCheck.add.Goals.{After-arcs}

-- the arcs that were found are the row's
found : (c : After-arcs) (at : Service) (certificate : PriceCertificate) (rows : List Row)
    → IsPassed at certificate rows c.args.self.now
    → arcs_of at (row_named c.args.region.now (octets_of c.args.handle) c.args.count) ≡ c.arcs.result.now
found c at certificate rows passed =
    let row = row_named c.args.region.now (octets_of c.args.handle) c.args.count in
    sym (c.arcs.ensures ∙ c.in_ok-number.ensures.arcs c.args.count
    ∙ ap (λ (costs : List CostEntry). arcs_from costs row 0 0 c.args.self.now.arcs.sites) passed.costs_are
    ∙ ap (λ (sites : List Site). arcs_from at.costs row 0 0 sites) passed.sites_are)

pub add-requires : goal.add-requires
add-requires c =
    let at = c.requires.0 in
    let passed : IsPassed at c.requires.1 c.requires.2 c.args.self.now = c.requires.3 in
    let row = row_named c.args.region.now (octets_of c.args.handle) c.args.count in
    let all : AllByRecursion (IsWithin (length at.servers)) (arcs_of at row) =
    arcs_within at.costs passed.costs.keyed.each row (length at.servers) 0 0 at.sites passed.service.sites.each
    (omega (arith, passed.service.servers.count)) in
    let own : AllByRecursion (IsWithin (length at.servers)) c.arcs.result.now =
    subst (λ (arcs : List Arc). AllByRecursion (IsWithin (length at.servers)) arcs)
    (found c at c.requires.1 c.requires.2 passed) all in
    record { judge = (at, c.requires.1, c.requires.2, passed.judge, own) }

pub add_row-requires : goal.add_row-requires
add_row-requires c =
    let passed : IsPassed c.requires.0 c.requires.1 c.requires.2 c.args.self.now = c.requires.3 in
    let low =
    place_low c.args.self.now.arcs.regions c.args.region.now c.args.region.now c.in_ok-number.number
    (rw c.in_ok-number.ensures.regions at c.in_ok-number.ensures.number) in
    omega (arith, low, passed.regions.many, ap (λ list. length list) passed.regions_are)

pub returns-clause-passed : goal.returns-clause-passed
returns-clause-passed c at certificate rows passed =
    let row = row_named c.args.region.now (octets_of c.args.handle) c.args.count in
    let known : (list_any (bytes_eq c.args.region.now) (regions_of rows) ≡ true)
    ⊎ (length (regions_of rows) < MOST_LOG_REGIONS) =
    rw (← passed.regions_are) (c.has_no_room.ensures.room c.if-has_no_room.false) in
    let regions =
    c.in_ok-number.ensures.regions ∙ ap (λ list. with_region list c.args.region.now) passed.regions_are
    ∙ sym (region_added rows row) in
    let of : IsOfRow at row c.args.region.now c.arcs.result.now c.args.count =
    record {
      region_is = refl;
      arcs_are = found (goal.at.returns-clause-passed c).After-arcs at certificate rows passed;
      count_is = refl;
    } in
    record {
      service = passed.service;
      costs = passed.costs;
      costs_are = c.in_ok-number.ensures.costs ∙ passed.costs_are;
      sites_are = c.in_ok-number.ensures.sites ∙ passed.sites_are;
      regions_are = regions;
      few_regions =
          rw (region_added rows row) (few_regions (regions_of rows) c.args.region.now passed.few_regions known);
      judge = c.in_ok-cost.ensures.passed at certificate rows row passed.judge of;
      service_is = passed.service_is;
      regions =
          subst (λ plan. AreRegionSums (cost_by at plan) (rows ++ row ∷ []) c.add_row.new.regions.items)
          (sym c.in_ok-cost.ensures.plan)
          (regions_more (cost_by at (judged_plan c.args.self.now.judge)) rows row c.in_ok-number.number
          c.in_ok-cost.cost c.args.self.now.regions.items c.add_row.new.regions.items passed.regions
          (rw regions at c.in_ok-number.ensures.number)
          (c.in_ok-cost.ensures.cost at certificate rows row passed.judge of) c.in_ok-add_row.ensures);
    }
