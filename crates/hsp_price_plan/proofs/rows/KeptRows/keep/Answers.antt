use Rattle.std.proofs.Common.{◌≡◌, ◌<◌, ◌+◌, ◌*◌, ◌-◌, ◌∙◌, ap, arith, length}
use Rattle.hsp_price_plan.specs.Keeping.{kept_by, servers_in}
use Rattle.hsp_price_plan.specs.Regions.{RegionArcs}
use Rattle.hsp_price_plan.proofs.Passing.{held_with, number_below, passed_all, passed_next, passed_settled}
use Rattle.hsp_price_plan.proofs.Passing.{region_by, region_read, within_next}
use Rattle.hsp_price_plan.proofs.Settling.{all_keep}
use Rattle.hsp_price_plan.proofs.rows.KeptRows.keep.Goals as goal
use Rattle.hsp_price_plan.proofs.rows.KeptRows.keep.Goals.{After-shape}

-- the row is one of those
inside : (c : After-shape) → c.loop-row.row < length c.self.inside.row_regions.items
inside c = omega (arith, c.loop-row-test.true, c.len-row-end.ensures, c.self.inside.row_regions.ok.0)

-- the shape is that of the row's region
shape_is : (c : After-shape)
    → c.shape.result.now
    ≡ (region_by c.self.inside.regions.items c.self.inside.row_regions.items c.loop-row.row).shape
shape_is c =
    let t = c.self.inside in
    let below =
    number_below t.sites t.regions.items t.row_regions.items t.counts.items t.places.items c.loop-row.row
    c.self.invariant (inside c) in
    c.shape.ensures
    ∙ ap (λ (region : RegionArcs). region.shape)
    (region_read t.regions.items t.row_regions.items c.loop-row.row c.from.result c.index.result.now
    c.index-region.result.now (inside c) below c.from.ensures (rw c.loop-row.invariant.numbers at c.index.ensures)
    (rw c.loop-row.invariant.regions at c.index-region.ensures))

pub keep_more-kept-requires-clause-within : goal.keep_more-kept-requires-clause-within
keep_more-kept-requires-clause-within c =
    let t = c.self.inside in
    let d = (goal.at.keep_more-kept-requires-clause-within c).After-shape in
    within_next (kept_by c.args.which) t.sites t.regions.items t.row_regions.items
    t.counts.items t.places.items c.self.invariant (servers_in c.args.which)
    c.loop-row.self-inside.places.items c.deref_mut.result.now c.shape.result.now c.loop-row.row
    c.loop-row.kept c.loop-row.self-inside.sites
    (c.loop-row.row * c.loop-row.self-inside.sites + c.loop-row.self-inside.sites
    - c.loop-row.row * c.loop-row.self-inside.sites) (inside d) c.loop-row.invariant.sites
    (omega (arith, c.loop-row.invariant.sites)) c.deref_mut.ensures.value (shape_is d) c.loop-row.invariant.passed
    (rw (← c.self.view_is) at c.requires.within)

pub loop-row-preserved : goal.loop-row-preserved
loop-row-preserved c =
    let t = c.self.inside in
    let d = (goal.at.loop-row-preserved c).After-shape in
    record {
      sites = c.loop-row.invariant.sites;
      regions = c.loop-row.invariant.regions;
      numbers = c.loop-row.invariant.numbers;
      counts = c.loop-row.invariant.counts;
      passed =
          passed_next (kept_by c.args.which) t.sites t.regions.items t.row_regions.items
          t.counts.items t.places.items c.self.invariant c.loop-row.self-inside.places.items
          c.deref_mut.result.now c.keep_more-kept.new.entries _ c.shape.result.now c.loop-row.row
          c.loop-row.kept c.keep_more-kept.result c.loop-row.self-inside.sites
          (c.loop-row.row * c.loop-row.self-inside.sites + c.loop-row.self-inside.sites
          - c.loop-row.row * c.loop-row.self-inside.sites) c.loop-row.self-inside.places.len (inside d)
          c.loop-row.invariant.sites (omega (arith, c.loop-row.invariant.sites))
          c.loop-row.self-inside.places.ok.0 c.deref_mut.ensures.value (shape_is d)
          c.keep_more-kept.auto.entries c.keep_more-kept.ensures c.loop-row.invariant.passed;
    }

pub returns-clause-kept : goal.returns-clause-kept
returns-clause-kept c =
    let t = c.self.inside in
    let f = kept_by c.args.which in
    rw (
      ← c.self.view_is,
      c.loop-row.invariant.sites,
      c.loop-row.invariant.regions,
      c.loop-row.invariant.numbers,
      c.loop-row.invariant.counts,
    )
    (ap (held_with t.sites t.regions.items)
    (passed_all f t.sites t.regions.items t.row_regions.items t.counts.items t.places.items c.self.invariant
    c.loop-row.self-inside.places.items c.loop-row.row c.loop-row.kept
    (omega (arith, c.loop-row-test.false, c.len-row-end.ensures, t.row_regions.ok.0)) c.loop-row.invariant.passed))

pub returns-clause-settled : goal.returns-clause-settled
returns-clause-settled c none =
    let t = c.self.inside in
    let f = kept_by c.args.which in
    rw (
      ← c.self.view_is,
      c.loop-row.invariant.sites,
      c.loop-row.invariant.regions,
      c.loop-row.invariant.numbers,
      c.loop-row.invariant.counts,
    )
    (ap (held_with t.sites t.regions.items)
    (passed_settled f t.sites t.regions.items t.row_regions.items t.counts.items t.places.items c.self.invariant
    c.loop-row.self-inside.places.items c.loop-row.row c.loop-row.kept (all_keep c.args.which)
    (omega (arith, c.loop-row-test.false, c.len-row-end.ensures, t.row_regions.ok.0)) none
    c.loop-row.invariant.passed))
