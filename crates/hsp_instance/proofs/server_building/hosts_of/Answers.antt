use Rattle.hsp_instance.specs.Building.{host_of_entry}
use Rattle.hsp_instance.proofs.Lists.{map_take_next}
use Rattle.std.proofs.Common.{arith}
use Rattle.std.proofs.lemmas.Grind.{common_steps}
use Rattle.hsp_instance.proofs.server_building.hosts_of.Goals as goal

pub loop-number-preserved : goal.loop-number-preserved
loop-number-preserved c =
    let next = map_take_next host_of_entry c.args.settings.now.hosts c.loop-number.number _ c.host-limit.ensures in
    rw (next, ← c.loop-number.invariant) c.in_ok-push.ensures.items

pub returns-clause-hosts : goal.returns-clause-hosts
returns-clause-hosts c = grind (arith, common_steps)
