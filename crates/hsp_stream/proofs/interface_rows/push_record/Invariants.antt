use Rattle.std.proofs.Common.{◌≡◌, ◌++◌, drop}
use Rattle.hsp_stream.specs.Interfaces.{server_rows}
use Rattle.hsp_stream.proofs.interface_rows.push_record.Given as goal

abbrev pub invariant-loop-place : goal.invariant-loop-place
invariant-loop-place l =
    l.out.items ++ server_rows l.name l.place (drop l.place l.site.servers)
    ≡ l.fn.out.items ++ server_rows l.name 0 l.site.servers
