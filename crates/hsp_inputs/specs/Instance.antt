-- The instance that five inputs define, or the first fault.
use Rattle.std.specs.Prelude.{◌≡◌, ℕ, List, [], Option, Some, None, option_map, Result, Ok}
use Rattle.hsp_record.specs.Values.{HandleValue}
use Rattle.hsp_csv.specs.Records.{records_of}
use Rattle.hsp_tables.specs.Table.{table_of}
use Rattle.hsp_tables.specs.Settings.{SettingsEntries}
use Rattle.hsp_tables.specs.Demand.{DemandEntry, demand_table}
use Rattle.hsp_tables.specs.Costs.{CostEntry, cost_table}
use Rattle.hsp_tables.specs.Capacities.{CapacityEntry, capacity_table}
use Rattle.hsp_tables.specs.declared.limits.Limits.{Limits}
use Rattle.hsp_instance.specs.Instance.{Instance}
use Rattle.hsp_instance.specs.Building as building
use Rattle.hsp_instance.specs.declared.fault.BuildFault.{BuildFault}
use Rattle.hsp_inputs.specs.declared.fault.Fault.{Fault}
use Rattle.hsp_inputs.specs.declared.fault.Fault.TheVariants.{Demand, Costs, Capacity, Build}
use Rattle.hsp_inputs.specs.declared.inputs.Inputs.{Inputs}
use Rattle.hsp_text.specs.Answers.{Then, fault_as}
use Rattle.hsp_inputs.specs.Limits.{limits_of}
use Rattle.hsp_inputs.specs.Readings.{ReadsSettings, ReadsValues}

-- the table of demand that octets spell, or no rows where none is given
abbrev pub ReadsDemand : Option (List ℕ) → Result (List DemandEntry) Fault → Type 0
ReadsDemand (Some octets) answer = answer ≡ fault_as Demand (table_of demand_table (records_of octets))
ReadsDemand None answer = answer ≡ Ok []

-- the other tables that octets spell
abbrev pub ReadsCosts : Limits → List ℕ → Result (List CostEntry) Fault → Type 0
ReadsCosts limits octets answer = answer ≡ fault_as Costs (table_of (cost_table limits) (records_of octets))

abbrev pub ReadsCapacities : List ℕ → Result (List CapacityEntry) Fault → Type 0
ReadsCapacities octets answer = answer ≡ fault_as Capacity (table_of capacity_table (records_of octets))

-- the instance of what was read
abbrev pub BuildsInstance : building.Inputs → Result Instance Fault → Type 0
BuildsInstance read answer =
    (built : Result Instance BuildFault) × building.IsBuilt read built × (answer ≡ fault_as Build built)

-- the capacities are read and the instance is built; before that the costs are read, the demand, and the values
abbrev pub ReadsCapacitiesOn : Inputs → SettingsEntries → Option (List HandleValue) → List DemandEntry → List CostEntry
    → Result Instance Fault → Type 0
ReadsCapacitiesOn inputs settings values demand costs =
    Then (ReadsCapacities inputs.capacity.items)
    (λ capacities.
    BuildsInstance
    (record { settings = settings; values = values; demand = demand; costs = costs; capacities = capacities }))

abbrev pub ReadsCostsOn : Inputs → SettingsEntries → Option (List HandleValue) → List DemandEntry
    → Result Instance Fault → Type 0
ReadsCostsOn inputs settings values demand =
    Then (ReadsCosts (limits_of inputs) inputs.costs.items) (ReadsCapacitiesOn inputs settings values demand)

abbrev pub ReadsDemandOn : Inputs → SettingsEntries → Option (List HandleValue) → Result Instance Fault → Type 0
ReadsDemandOn inputs settings values =
    Then (ReadsDemand (option_map (λ d. d.items) inputs.demand)) (ReadsCostsOn inputs settings values)

abbrev pub ReadsValuesOn : Inputs → SettingsEntries → Result Instance Fault → Type 0
ReadsValuesOn inputs settings =
    Then (ReadsValues (option_map (λ v. v.items) inputs.values)) (ReadsDemandOn inputs settings)

-- the instance of the settings, the values, the demand, the costs and the capacities, read in this order
abbrev pub IsInstanceOf : Inputs → Result Instance Fault → Type 0
IsInstanceOf inputs = Then (ReadsSettings inputs.settings.items) (ReadsValuesOn inputs)
