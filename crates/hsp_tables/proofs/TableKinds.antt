-- The readings of the three tables are their relations.
use Rattle.hsp_tables.specs.Capacities.{capacity_table}
use Rattle.hsp_tables.specs.Costs.{cost_table}
use Rattle.hsp_tables.specs.Demand.{demand_table}
use Rattle.hsp_tables.specs.declared.limits.Limits.{Limits}
use Rattle.hsp_tables.specs.Table.{ReadsAsItsRelation}
use Rattle.hsp_tables.proofs.TableReading.{reads_as_its_relation}
use Rattle.hsp_tables.proofs.TableRows.{capacity_keys, cost_keys, demand_keys}

-- demand is read as its relation says
pub demand_is_its_relation : ReadsAsItsRelation demand_table
demand_is_its_relation = reads_as_its_relation demand_table demand_keys

-- costs are read as their relation says
pub costs_are_their_relation : (limits : Limits) → ReadsAsItsRelation (cost_table limits)
costs_are_their_relation limits = reads_as_its_relation (cost_table limits) cost_keys

-- capacities are read as their relation says
pub capacities_are_their_relation : ReadsAsItsRelation capacity_table
capacities_are_their_relation = reads_as_its_relation capacity_table capacity_keys
