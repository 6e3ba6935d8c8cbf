use Rattle.std.proofs.Common.{◌∙◌, ap, length, sym}
use Rattle.hsp_price_plan.proofs.RowPlaces.{length-rows_by}
use Rattle.hsp_price_plan.proofs.rows.KeptRows.len.Goals as goal

pub returns-clause-count : goal.returns-clause-count
returns-clause-count c =
    let t = c.self.inside in
    c.len.ensures ∙ t.row_regions.ok.0
    ∙ sym (length-rows_by t.sites t.regions.items t.row_regions.items t.counts.items t.places.items
    c.self.invariant.many_counts) ∙ ap (λ held. length held.rows) c.self.view_is
