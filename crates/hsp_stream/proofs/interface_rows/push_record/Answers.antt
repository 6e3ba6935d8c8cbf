use Rattle.hsp_stream.proofs.InterfaceWriting.{server_more}
use Rattle.hsp_stream.proofs.interface_rows.push_record.Goals as goal

pub loop-place-preserved : goal.loop-place-preserved
loop-place-preserved c =
    server_more c.loop-place.out.items _ _ c.args.name.now c.loop-place.place c.args.site.now.servers
    c.server.result.now c.server.ensures c.in_ok-push_server.ensures c.loop-place.invariant
