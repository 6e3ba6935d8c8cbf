use Rattle.hsp_tables.proofs.TableRows.{no_demand}
use Rattle.hsp_tables.proofs.demand.Demand.none.Goals as goal

pub demand_of-requires : goal.demand_of-requires
demand_of-requires c = rw c.with_hasher.ensures.empty no_demand

pub returns : goal.returns
returns c = rw c.with_hasher.ensures.empty at c.demand_of.ensures
