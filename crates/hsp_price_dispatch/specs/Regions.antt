-- Which regions have a cost.
use Rattle.std.specs.Prelude.{Bool, List, is_some, ℕ}
use Rattle.std.specs.List.{list_any}
use Rattle.hsp_tables.specs.Costs.{CostEntry}
use Rattle.hsp_instance.specs.Building.{cost_of}
use Rattle.hsp_instance.specs.Instance.{Site}
use Rattle.hsp_prices.specs.Rows.{Service}

-- a query from a region has a cost at a site
abbrev pub has_cost_at : List CostEntry → List ℕ → Site → Bool
has_cost_at costs region site = is_some (cost_of costs region site.name)

-- it has one at some site of a service
abbrev pub has_cost : Service → List ℕ → Bool
has_cost at region = list_any (has_cost_at at.costs region) at.sites
