use Rattle.std.proofs.Common.{◌≡◌, map, take}
use Rattle.hsp_instance.specs.Building.{host_of_entry}
use Rattle.hsp_instance.proofs.server_building.hosts_of.Given as goal

abbrev pub invariant-loop-number : goal.invariant-loop-number
invariant-loop-number l = l.hosts.items ≡ map host_of_entry (take l.number l.settings.hosts)
