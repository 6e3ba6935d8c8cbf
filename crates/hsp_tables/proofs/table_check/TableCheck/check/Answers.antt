use Rattle.hsp_csv.specs.Walks.{shown}
use Rattle.hsp_tables.specs.Capacities.{capacity_table}
use Rattle.hsp_tables.specs.Costs.{cost_table}
use Rattle.hsp_tables.specs.declared.limits.Limits.TheVariants.{Logs}
use Rattle.hsp_tables.specs.Demand.{demand_table}
use Rattle.hsp_tables.proofs.FaultyRows.{checked_then}
use Rattle.hsp_tables.proofs.table_check.TableCheck.check.Goals as goal

pub returns-in-Demand-clause-checked : goal.returns-in-Demand-clause-checked
returns-in-Demand-clause-checked c =
    let checked = c.check.ensures in
    rw c.in-Demand.is (checked_then demand_table c.in-Demand.kept.row _ _ _ (shown c.args.placed.now) c.check.result
    checked.checked checked.rows checked.row)

pub returns-in-Costs-clause-checked : goal.returns-in-Costs-clause-checked
returns-in-Costs-clause-checked c =
    let checked = c.check-in-Costs.ensures in
    rw c.in-Costs.is
    (checked_then (cost_table Logs) c.in-Costs.kept.row _ _ _ (shown c.args.placed.now) c.check-in-Costs.result
    checked.checked checked.rows checked.row)

pub returns-in-Capacity-clause-checked : goal.returns-in-Capacity-clause-checked
returns-in-Capacity-clause-checked c =
    let checked = c.check-in-Capacity.ensures in
    rw c.in-Capacity.is
    (checked_then capacity_table c.in-Capacity.kept.row _ _ _ (shown c.args.placed.now) c.check-in-Capacity.result
    checked.checked checked.rows checked.row)
