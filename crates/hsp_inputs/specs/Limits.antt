-- Within which limits inputs are read.
use Rattle.std.specs.Prelude.{Option, Some, None}
use Rattle.hsp_tables.specs.declared.limits.Limits.{Limits}
use Rattle.hsp_tables.specs.declared.limits.Limits.TheVariants.{Logs, Tables}
use Rattle.hsp_inputs.specs.declared.inputs.Inputs.{Inputs}

-- where no table of demand is given, rows are those of a log
abbrev pub limits_for : {A : Type 0} → Option A → Limits
limits_for (Some demand) = Tables
limits_for None = Logs

abbrev pub limits_of : Inputs → Limits
limits_of inputs = limits_for inputs.demand
