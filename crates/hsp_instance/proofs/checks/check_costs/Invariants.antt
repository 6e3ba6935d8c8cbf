use Rattle.std.proofs.Common.{◌≡◌, drop}
use Rattle.hsp_instance.specs.Building.{cost_fault}
use Rattle.hsp_instance.proofs.checks.check_costs.Given as goal

abbrev pub invariant-loop-row : goal.invariant-loop-row
invariant-loop-row l = cost_fault l.sites l.row (drop l.row l.costs) ≡ cost_fault l.sites 0 l.costs
