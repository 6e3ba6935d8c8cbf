use Rattle.std.proofs.Common.{◌++◌}
use Rattle.hsp_record.specs.Fields.{joined, list_fields}
use Rattle.hsp_record.specs.Site.{interface_fields}
use Rattle.hsp_record.proofs.Appending.{append_next}
use Rattle.hsp_record.proofs.site_encoding.push_interfaces.Goals as goal

pub loop-interface-preserved : goal.loop-interface-preserved
loop-interface-preserved c =
    rw c.in_ok-push_interface.ensures
    (append_next interface_fields c.args.interfaces.now c.loop-interface.interface-index c.interface-item.result
    c.loop-interface.out.items (c.args.out.now.items ++ joined (list_fields interface_fields c.args.interfaces.now))
    c.loop-interface-test.true c.interface-item.is c.loop-interface.invariant)
