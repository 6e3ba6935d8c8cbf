use Rattle.std.proofs.Common.{◌≡◌, map, take}
use Rattle.hsp_flow.specs.Columns as columns
use Rattle.hsp_prices.specs.Groups.{Group}
use Rattle.hsp_price_plan.specs.Columns.{arcs_of_groups}
use Rattle.hsp_price_plan.proofs.columns.columns_of.Given as goal

-- the columns of the groups so far
abbrev pub invariant-loop-number : goal.invariant-loop-number
invariant-loop-number l = record {
  demands : l.demands.items ≡ map (λ (group : Group). group.demand) (take l.number l.groups);
  arcs : columns.AreColumns (arcs_of_groups (take l.number l.groups)) l.arcs;
}
