use Rattle.std.proofs.Common.{arith, length-append}
use Rattle.hsp_instance.specs.Building.{server_of_record}
use Rattle.hsp_instance.proofs.Lists.{map_take_next}
use Rattle.std.proofs.lemmas.Grind.{common_steps}
use Rattle.hsp_instance.proofs.site_reading.servers_of_record.Goals as goal

pub loop-place-preserved : goal.loop-place-preserved
loop-place-preserved c =
    let next =
    map_take_next server_of_record c.args.decoded.now.servers c.loop-place.place c.server-server.result.now
    c.server-server.ensures in
    record {
      items = rw (next, ← c.loop-place.invariant.items, ← c.id.ensures, ← c.address.ensures) c.in_ok-push.ensures.items;
      count = rw (c.in_ok-push.ensures.items, length-append) (omega arith);
    }

pub returns-clause-servers : goal.returns-clause-servers
returns-clause-servers c = grind (arith, common_steps)
