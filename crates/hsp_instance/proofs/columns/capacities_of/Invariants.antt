use Rattle.std.proofs.Common.{◌≡◌, take, map}
use Rattle.hsp_instance.proofs.columns.capacities_of.Given as goal

abbrev pub invariant-loop-server : goal.invariant-loop-server
invariant-loop-server l = l.capacities.items ≡ take l.server (map (λ x. x.capacity) l.instance.servers)
