-- Certificates of tables and certificates by prices speak of one network, that of the page of the headline.
use Rattle.std.specs.Prelude.{◌≡◌, ◌↔◌, List}
use Rattle.std.specs.List.{Contains}
use Rattle.hsp_tables.specs.Costs.{CostEntry}
use Rattle.hsp_instance.specs.Instance.{Instance, IsAscending, Row}
use Rattle.hsp_instance.specs.declared.arc.Arc.{Arc}
use Rattle.hsp_check.specs.Instance.{network_of}
use Rattle.hsp_prices.specs.Rows.{network_for}
use Rattle.hsp_prices.specs.Least.{arcs_of}
use Rattle.hsp_inputs.specs.Headline.{AreCosts, Defines, IsArc}
use Rattle.hsp_inputs.specs.declared.inputs.Inputs.{Inputs}
use Rattle.hsp_price_check.specs.Classes.{service_of}
use Rattle.hsp_inputs.specs.Limits.{limits_of}

-- by prices the rows of a table have the network of its instance
abbrev pub TableHasItsNetwork : Type 0
TableHasItsNetwork =
    (inputs : Inputs) (it : Instance) (costs : List CostEntry) → Defines inputs it
    → AreCosts (limits_of inputs) it.sites inputs.costs.items costs
    → network_for (service_of costs it) it.rows ≡ network_of it

-- by prices the arcs of a row, in a table or not, are those that the page says, in the order of the sites
abbrev pub RowsHaveTheirArcs : Type 0
RowsHaveTheirArcs =
    (inputs : Inputs) (it : Instance) (costs : List CostEntry) (row : Row) → Defines inputs it
    → AreCosts (limits_of inputs) it.sites inputs.costs.items costs
    → IsAscending (arcs_of (service_of costs it) row)
    × ((arc : Arc) → Contains (arcs_of (service_of costs it) row) arc ↔ IsArc costs it.sites row arc)
