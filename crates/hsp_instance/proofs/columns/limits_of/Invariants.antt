use Rattle.std.proofs.Common.{◌≡◌, take, map}
use Rattle.hsp_instance.proofs.columns.limits_of.Given as goal

abbrev pub invariant-loop-host : goal.invariant-loop-host
invariant-loop-host l = l.limits.items ≡ take l.host (map (λ x. x.limit) l.instance.hosts)
