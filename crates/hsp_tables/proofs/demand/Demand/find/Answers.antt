use Rattle.hsp_tables.proofs.Lookups.{demand_placed}
use Rattle.hsp_tables.proofs.demand.Demand.find.Goals as goal

pub returns : goal.returns
returns c =
    let rows = c.self.inside.rows.value.entries in
    rw (← c.self.view_is)
    (demand_placed c.args.region.now c.args.handle.now rows c.find.result c.self.invariant.0.keyed.apart
    (rw (c.deref.ensures, c.self.invariant.1) at c.find.ensures.found)
    (rw (c.deref.ensures, c.self.invariant.1) at c.find.ensures.none))
