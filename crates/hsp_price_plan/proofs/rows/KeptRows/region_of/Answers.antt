use Rattle.std.proofs.Common.{◌≡◌, ◌<◌, ◌∙◌, ap, arith, get_or, length}
use Rattle.std.proofs.lemmas.List.{get_or_read}
use Rattle.hsp_prices.specs.KeptRows.{KeptRow}
use Rattle.hsp_price_plan.specs.Held.{no_row}
use Rattle.hsp_price_plan.proofs.Passing.{number_below}
use Rattle.hsp_price_plan.proofs.RowPlaces.{get_or-rows_by, length-rows_by}
use Rattle.hsp_price_plan.proofs.rows.KeptRows.region_of.Goals as goal
use Rattle.hsp_price_plan.proofs.rows.KeptRows.region_of.Goals.{After-self, After-from}

-- the row is one of those
inside : (c : After-self) → c.args.row < length c.self.inside.row_regions.items
inside c =
    let t = c.self.inside in
    let many =
    length-rows_by t.sites t.regions.items t.row_regions.items t.counts.items t.places.items
    c.self.invariant.many_counts in
    omega (arith, many, (rw (← c.self.view_is) at c.requires))

-- its number is that of its region
number_is : (c : After-from) → c.args.row < length c.self.inside.row_regions.items
    → c.from.result ≡ get_or c.self.inside.row_regions.items c.args.row 0
number_is c below =
    c.from.ensures
    ∙ get_or_read c.self.inside.row_regions.items c.args.row c.index.result.now below c.index.ensures 0

pub index-requires : goal.index-requires
index-requires c =
    omega (arith, inside (goal.at.index-requires c).After-self, c.self.inside.row_regions.ok.0)

pub returns-clause-below : goal.returns-clause-below
returns-clause-below c =
    let t = c.self.inside in
    let below = inside (goal.at.returns-clause-below c).After-self in
    rw (← c.self.view_is, number_is c below)
    (number_below t.sites t.regions.items t.row_regions.items t.counts.items t.places.items c.args.row
    c.self.invariant below)

pub returns-clause-named : goal.returns-clause-named
returns-clause-named c =
    let t = c.self.inside in
    let below = inside (goal.at.returns-clause-named c).After-self in
    rw (← c.self.view_is, number_is c below)
    (ap (λ (row : KeptRow). row.region)
    (get_or-rows_by t.sites t.regions.items t.row_regions.items t.counts.items t.places.items c.args.row no_row
    below c.self.invariant.many_counts))
