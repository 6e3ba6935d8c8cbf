use Rattle.std.proofs.Common.{◌≡◌, ◌∙◌, ap, sym}
use Rattle.hsp_names.specs.Lent.{octets_of}
use Rattle.hsp_tables.specs.Rows.{demand_shown}
use Rattle.hsp_instance.specs.Building.{row_of}
use Rattle.hsp_instance.specs.RegionCosts.{arcs_by, costs_at}
use Rattle.hsp_instance.proofs.ArcLists.{by_region}
use Rattle.hsp_instance.proofs.arc_building.arcs_of_row.Goals as goal

pub returns-clause-known : goal.returns-clause-known
returns-clause-known c = c.in_ok-place.ensures.known

pub returns-clause-arcs : goal.returns-clause-arcs
returns-clause-arcs c =
    let found : c.costs_there.result.now ≡ costs_at c.args.costs.now c.args.row.region.now c.args.sites.now =
    cc (sym c.costs_there.ensures ∙ c.in_ok-place.ensures.place) in
    c.in_ok-arcs.ensures ∙ ap (arcs_by (octets_of c.args.row.handle) 0 0 c.args.sites.now) found
    ∙ by_region c.args.costs.now (row_of (demand_shown c.args.row)) 0 0 c.args.sites.now
