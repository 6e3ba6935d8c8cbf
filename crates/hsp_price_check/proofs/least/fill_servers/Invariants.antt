use Rattle.std.proofs.Common.{◌≡◌, map, take}
use Rattle.hsp_instance.specs.declared.arc.Arc.{Arc}
use Rattle.hsp_price_check.proofs.least.fill_servers.Given as goal

abbrev pub invariant-loop-arc : goal.invariant-loop-arc
invariant-loop-arc l = l.servers.items ≡ map (λ (arc : Arc). arc.server) (take l.arc-index l.arcs)
