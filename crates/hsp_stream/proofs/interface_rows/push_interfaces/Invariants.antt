use Rattle.std.proofs.Common.{◌≡◌, ◌++◌, drop}
use Rattle.hsp_stream.specs.Interfaces.{interface_rows}
use Rattle.hsp_stream.proofs.interface_rows.push_interfaces.Given as goal

abbrev pub invariant-loop-number : goal.invariant-loop-number
invariant-loop-number l =
    l.out.items ++ interface_rows l.fields (drop l.number l.server.interfaces)
    ≡ l.fn.out.items ++ interface_rows l.fields l.server.interfaces
