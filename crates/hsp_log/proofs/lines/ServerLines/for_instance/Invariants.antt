use Rattle.std.proofs.Common.{◌≡◌, take, map}
use Rattle.hsp_log.specs.Lines.{server_line}
use Rattle.hsp_log.proofs.lines.ServerLines.for_instance.Given as goal

abbrev pub invariant-loop-server : goal.invariant-loop-server
invariant-loop-server l = l.lines.items ≡ take l.server (map (server_line l.instance) l.instance.servers)
