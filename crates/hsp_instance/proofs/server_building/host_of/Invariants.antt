use Rattle.std.proofs.Common.{◌≡◌, drop}
use Rattle.std.specs.List.{position_from}
use Rattle.hsp_instance.specs.Building.{is_at}
use Rattle.hsp_instance.proofs.server_building.host_of.Given as goal

abbrev pub invariant-loop-number : goal.invariant-loop-number
invariant-loop-number l =
    position_from (is_at l.address) l.number (drop l.number l.hosts) ≡ position_from (is_at l.address) 0 l.hosts
