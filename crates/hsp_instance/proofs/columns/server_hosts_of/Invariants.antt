use Rattle.std.proofs.Common.{◌≡◌, take, map}
use Rattle.hsp_instance.proofs.columns.server_hosts_of.Given as goal

abbrev pub invariant-loop-server : goal.invariant-loop-server
invariant-loop-server l = l.hosts.items ≡ take l.server (map (λ x. x.host) l.instance.servers)
