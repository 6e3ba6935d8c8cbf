use Rattle.std.proofs.Common.{◌≡◌, ◌∙◌, ap, sym}
use Rattle.hsp_names.specs.Lent.{octets_of}
use Rattle.hsp_instance.specs.Building.{arcs_from}
use Rattle.hsp_instance.specs.RegionCosts.{arcs_by, costs_at}
use Rattle.hsp_instance.specs.RowArcs.{row_named}
use Rattle.hsp_instance.proofs.ArcLists.{by_region}
use Rattle.hsp_instance.proofs.row_arcs.RowArcs.find.Goals as goal

pub returns-clause-arcs : goal.returns-clause-arcs
returns-clause-arcs c count =
    let list = c.as_slice-list.result.now in
    let costs = c.self.inside.costs.now in
    let row = row_named c.args.region.now (octets_of c.args.handle) count in
    let found : c.costs_there-costs.result.now ≡ costs_at costs c.args.region.now list =
    cc (sym c.costs_there-costs.ensures ∙ c.in_ok-place.ensures.place) in
    let is : list ≡ c.self.inside.sites.now = c.as_slice-list.ensures.value ∙ c.sites.view_is in
    rw (← c.self.view_is)
    (c.in_ok-fill_arcs.ensures ∙ ap (arcs_by (octets_of c.args.handle) 0 0 list) found
    ∙ by_region costs row 0 0 list
    ∙ ap (arcs_from costs row 0 0) is)
