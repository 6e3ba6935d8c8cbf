use Rattle.std.proofs.Common.{refl}
use Rattle.hsp_tables.specs.Rows.{demand_shown}
use Rattle.hsp_instance.specs.RegionCosts.{arcs_of}
use Rattle.hsp_instance.proofs.Lists.{map_take_next}
use Rattle.hsp_instance.proofs.arc_building.arcs_of.Goals as goal

pub loop-number-preserved : goal.loop-number-preserved
loop-number-preserved c =
    let next =
    map_take_next (arcs_of c.args.costs.now c.args.sites.now) c.args.demand.now c.loop-number.number
    (demand_shown c.row.result) c.row.ensures in
    record {
      known = c.in_ok-arcs.ensures.known;
      lists = rw (next, c.in_ok-push.ensures.items, c.loop-number.invariant.lists, c.in_ok-arcs.ensures.arcs) refl;
    }
