use Rattle.std.proofs.Common.{◌≡◌, ◌++◌, drop}
use Rattle.hsp_record.specs.Fields.{joined, all_fields, list_fields}
use Rattle.hsp_record.specs.Site.{interface_fields}
use Rattle.hsp_record.proofs.site_encoding.push_interfaces.Given as goal

abbrev pub invariant-loop-interface : goal.invariant-loop-interface
invariant-loop-interface l =
    l.out.items ++ joined (all_fields interface_fields (drop l.interface-index l.interfaces)) ≡ l.fn.out.items
    ++ joined (list_fields interface_fields l.interfaces)
