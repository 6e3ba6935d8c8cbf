use Rattle.std.proofs.Common.{◌≡◌, [], drop}
use Rattle.hsp_instance.specs.Building.{servers_from}
use Rattle.hsp_instance.proofs.server_building.servers_of.Given as goal

abbrev pub invariant-loop-number : goal.invariant-loop-number
invariant-loop-number l =
    servers_from l.capacities l.hosts l.number l.servers.items (drop l.number l.sites)
    ≡ servers_from l.capacities l.hosts 0 [] l.sites
