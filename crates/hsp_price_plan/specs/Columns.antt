-- The columns of groups: what each asks for, and of each arc its group, its server and its cost.
use Rattle.std.specs.Prelude.{◌≡◌, List, map}
use Rattle.hsp_check.specs.declared.arc.NetworkArc.{NetworkArc}
use Rattle.hsp_check.specs.Instance.{arcs_from}
use Rattle.hsp_flow.specs.Columns as arcs
use Rattle.hsp_prices.specs.Groups.{Group}
use Rattle.hsp_price_plan.specs.declared.columns.GroupColumns.{GroupColumns}

-- the arcs of groups, each with the number of its group
abbrev pub arcs_of_groups : List Group → List NetworkArc
arcs_of_groups groups = arcs_from 0 (map (λ group. group.arcs) groups)

-- the columns are those of these groups
pub record AreColumns (groups : List Group) (columns : GroupColumns) : Type 0 where
  pub demands : columns.demands.items ≡ map (λ group. group.demand) groups
  pub arcs : arcs.AreColumns (arcs_of_groups groups) columns.arcs
