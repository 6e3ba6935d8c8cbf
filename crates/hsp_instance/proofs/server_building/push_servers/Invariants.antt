use Rattle.std.proofs.Common.{◌≡◌, drop}
use Rattle.hsp_instance.specs.Building.{servers_at, servers_with}
use Rattle.hsp_instance.proofs.server_building.push_servers.Given as goal

abbrev pub invariant-loop-place : goal.invariant-loop-place
invariant-loop-place l =
    servers_at l.capacities l.hosts l.number l.site.name l.place l.servers.items (drop l.place l.site.servers)
    ≡ servers_with l.capacities l.hosts l.number l.fn.servers.items l.site
