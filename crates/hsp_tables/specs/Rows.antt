-- What the rows that a table lends show.
use Rattle.hsp_names.specs.Lent.{octets_of}
use Rattle.hsp_tables.specs.Capacities.{CapacityEntry}
use Rattle.hsp_tables.specs.Costs.{CostEntry}
use Rattle.hsp_tables.specs.Demand.{DemandEntry}
use Rattle.hsp_tables.specs.declared.capacity.CapacityRow.{CapacityRow}
use Rattle.hsp_tables.specs.declared.costs.CostRow.{CostRow}
use Rattle.hsp_tables.specs.declared.demand.DemandRow.{DemandRow}

abbrev pub demand_shown : DemandRow → DemandEntry
demand_shown row = record { region = row.region.now; handle = octets_of row.handle; count = row.count }

abbrev pub cost_shown : CostRow → CostEntry
cost_shown row = record { region = row.region.now; site = row.site.now; cost = row.cost }

abbrev pub capacity_shown : CapacityRow → CapacityEntry
capacity_shown row = record { site = row.site.now; server_id = row.server_id; capacity = row.capacity }
