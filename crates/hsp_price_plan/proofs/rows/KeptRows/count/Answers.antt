use Rattle.std.proofs.Common.{◌<◌, ◌∙◌, ap, arith, length, sym}
use Rattle.std.proofs.lemmas.List.{get_or_read}
use Rattle.hsp_prices.specs.KeptRows.{KeptRow}
use Rattle.hsp_price_plan.specs.Held.{HeldRows, no_row, row_at}
use Rattle.hsp_price_plan.proofs.RowPlaces.{get_or-rows_by, length-rows_by}
use Rattle.hsp_price_plan.proofs.rows.KeptRows.count.Goals as goal
use Rattle.hsp_price_plan.proofs.rows.KeptRows.count.Goals.{After-self}

-- the row is one of those
inside : (c : After-self) → c.args.row < length c.self.inside.row_regions.items
inside c =
    let t = c.self.inside in
    let many =
    length-rows_by t.sites t.regions.items t.row_regions.items t.counts.items t.places.items
    c.self.invariant.many_counts in
    omega (arith, many, (rw (← c.self.view_is) at c.requires))

pub index-requires : goal.index-requires
index-requires c =
    let t = c.self.inside in
    omega (arith, inside (goal.at.index-requires c).After-self, t.counts.ok.0, c.self.invariant.many_counts)

pub returns : goal.returns
returns c =
    let t = c.self.inside in
    let below = inside (goal.at.returns c).After-self in
    get_or_read t.counts.items c.args.row c.index.result.now (omega (arith, below, c.self.invariant.many_counts))
    c.index.ensures 0
    ∙ ap (λ (row : KeptRow). row.count)
    (sym (get_or-rows_by t.sites t.regions.items t.row_regions.items t.counts.items t.places.items c.args.row no_row
    below c.self.invariant.many_counts))
    ∙ ap (λ (held : HeldRows). (row_at held c.args.row).count) c.self.view_is
