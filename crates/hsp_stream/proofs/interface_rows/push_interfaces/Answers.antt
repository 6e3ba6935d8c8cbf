use Rattle.hsp_stream.proofs.InterfaceWriting.{interface_more}
use Rattle.hsp_stream.proofs.interface_rows.push_interfaces.Goals as goal

pub loop-number-preserved : goal.loop-number-preserved
loop-number-preserved c =
    interface_more c.loop-number.out.items _ _ c.args.fields.now c.loop-number.number c.args.server.now.interfaces _
    c.interface-service_type.ensures
    (rw c.in_ok-extend_from_slice.ensures.items at c.in_ok-push_interface_fields.ensures) c.loop-number.invariant
