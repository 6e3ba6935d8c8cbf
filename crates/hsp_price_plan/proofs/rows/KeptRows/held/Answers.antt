use Rattle.std.proofs.Common.{◌≡◌, ◌<◌, ◌*◌, ◌∙◌, ℕ, List, ap, arith, drop, length, sym}
use Rattle.std.proofs.Common.{take}
use Rattle.std.proofs.lemmas.List.{get_or_read}
use Rattle.hsp_prices.specs.KeptRows.{KeptRow}
use Rattle.hsp_price_plan.specs.Entries.{arcs_by}
use Rattle.hsp_price_plan.specs.Held.{HeldRows, no_row, row_at}
use Rattle.hsp_price_plan.specs.Regions.{RegionArcs}
use Rattle.hsp_price_plan.specs.declared.region.SiteCost.{SiteCost}
use Rattle.hsp_price_plan.proofs.Passing.{number_below, region_by, region_read, shape_short}
use Rattle.hsp_price_plan.proofs.RowPlaces.{entries_at, get_or-rows_by, length-entries_at, length-rows_by}
use Rattle.hsp_price_plan.proofs.RowPlaces.{place_within}
use Rattle.hsp_price_plan.proofs.rows.KeptRows.held.Goals as goal
use Rattle.hsp_price_plan.proofs.rows.KeptRows.held.Goals.{After-self, After-shape}

-- the row is one of those
inside : (c : After-self) → c.args.row < length c.self.inside.row_regions.items
inside c =
    let t = c.self.inside in
    let many =
    length-rows_by t.sites t.regions.items t.row_regions.items t.counts.items t.places.items
    c.self.invariant.many_counts in
    omega (arith, many, (rw (← c.self.view_is) at c.requires))

pub index-requires : goal.index-requires
index-requires c =
    omega (arith, inside (goal.at.index-requires c).After-self, c.self.inside.row_regions.ok.0)

pub index-region-requires : goal.index-region-requires
index-region-requires c =
    let t = c.self.inside in
    let row_below = inside (goal.at.index-region-requires c).After-self in
    let number =
    get_or_read t.row_regions.items c.args.row c.index.result.now row_below c.index.ensures 0 in
    let below =
    number_below t.sites t.regions.items t.row_regions.items t.counts.items t.places.items c.args.row
    c.self.invariant row_below in
    omega (arith, number, c.from.ensures, below, t.regions.ok.0)

pub entries_of-entries-requires : goal.entries_of-entries-requires
entries_of-entries-requires c =
    let t = c.self.inside in
    let row_below = inside (goal.at.entries_of-entries-requires c).After-self in
    omega (
      arith,
      place_within (length t.row_regions.items) c.args.row t.sites row_below,
      c.self.invariant.many_places,
      t.places.ok.0,
    )

-- the shape and the entries are those of the row
shape_is : (c : After-shape) → c.args.row < length c.self.inside.row_regions.items
    → c.shape.result.now
    ≡ (region_by c.self.inside.regions.items c.self.inside.row_regions.items c.args.row).shape
shape_is c row_below =
    let t = c.self.inside in
    let below =
    number_below t.sites t.regions.items t.row_regions.items t.counts.items t.places.items c.args.row
    c.self.invariant row_below in
    c.shape.ensures
    ∙ ap (λ (region : RegionArcs). region.shape)
    (region_read t.regions.items t.row_regions.items c.args.row c.from.result c.index.result.now
    c.index-region.result.now row_below below c.from.ensures c.index.ensures c.index-region.ensures)

entries_are : (c : After-shape)
    → c.entries_of-entries.result.now ≡ entries_at c.self.inside.sites c.args.row c.self.inside.places.items
entries_are c =
    c.entries_of-entries.ensures
    ∙ ap (λ (places : List ℕ). take c.self.inside.sites (drop (c.args.row * c.self.inside.sites) places))
    c.deref.ensures.value

pub returns-clause-short : goal.returns-clause-short
returns-clause-short c =
    let t = c.self.inside in
    let d = (goal.at.returns-clause-short c).After-shape in
    let row_below = inside (goal.at.returns-clause-short c).After-self in
    let own =
    length-entries_at (length t.row_regions.items) c.args.row t.sites t.places.items row_below
    c.self.invariant.many_places in
    let short =
    shape_short t.sites t.regions.items t.row_regions.items t.counts.items t.places.items c.args.row c.self.invariant
    row_below in
    rw (shape_is d row_below, entries_are d, own) short

pub returns-clause-arcs : goal.returns-clause-arcs
returns-clause-arcs c =
    let t = c.self.inside in
    let d = (goal.at.returns-clause-arcs c).After-shape in
    let row_below = inside (goal.at.returns-clause-arcs c).After-self in
    ap (λ (shape : List SiteCost). arcs_by shape c.entries_of-entries.result.now) (shape_is d row_below)
    ∙ ap (arcs_by (region_by t.regions.items t.row_regions.items c.args.row).shape) (entries_are d)
    ∙ ap (λ (row : KeptRow). row.arcs)
    (sym (get_or-rows_by t.sites t.regions.items t.row_regions.items t.counts.items t.places.items c.args.row no_row
    row_below c.self.invariant.many_counts))
    ∙ ap (λ (held : HeldRows). (row_at held c.args.row).arcs) c.self.view_is
