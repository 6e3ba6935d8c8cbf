use Rattle.hsp_report.proofs.RegionSums.{cost_is}
use Rattle.hsp_report.proofs.regions.region_cost.Goals as goal

pub returns : goal.returns
returns c =
    λ x planned.
    cost_is c.args.instance.now x c.args.arc_flows.now c.args.region.now c.loop-place.place c.loop-place.sum planned
    c.loop-place-test.false c.loop-place.invariant.so_far
