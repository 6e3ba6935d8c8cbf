use Rattle.std.proofs.Common.{◌≡◌, drop}
use Rattle.hsp_instance.specs.Building.{capacity_fault}
use Rattle.hsp_instance.proofs.checks.check_capacities.Given as goal

abbrev pub invariant-loop-number : goal.invariant-loop-number
invariant-loop-number l =
    capacity_fault l.sites l.number (drop l.number l.capacities) ≡ capacity_fault l.sites 0 l.capacities
