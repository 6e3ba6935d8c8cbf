use Rattle.hsp_report.specs.RegionReport.{region_line}
use Rattle.hsp_report.proofs.RegionSums.{region_more}
use Rattle.hsp_report.proofs.regions.push_regions.Goals as goal

pub loop-region-preserved : goal.loop-region-preserved
loop-region-preserved c = λ x planned.
    let added =
    rw (
      c.aligned.ensures,
      c.aligned-in-loop-region.ensures,
      c.region_demand-demand.ensures,
      c.region_cost-cost.ensures x planned,
    ) at c.in_ok-push_columns.ensures in
    region_more (region_line c.args.instance.now x) c.args.out.now.items c.loop-region.out.items _ c.args.regions.now
    c.loop-region.region-index _ c.loop-region-test.true
    (c.loop-region.invariant x planned) added
