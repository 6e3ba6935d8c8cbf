use Rattle.std.proofs.Common.{◌++◌}
use Rattle.hsp_record.specs.Fields.{joined, list_fields}
use Rattle.hsp_record.specs.Site.{server_fields}
use Rattle.hsp_record.proofs.Appending.{append_next}
use Rattle.hsp_record.proofs.site_encoding.push_servers.Goals as goal

pub loop-server-preserved : goal.loop-server-preserved
loop-server-preserved c =
    rw c.in_ok-push_server.ensures
    (append_next server_fields c.args.servers.now c.loop-server.server-index c.server-item.result
    c.loop-server.out.items (c.args.out.now.items ++ joined (list_fields server_fields c.args.servers.now))
    c.loop-server-test.true c.server-item.is c.loop-server.invariant)
