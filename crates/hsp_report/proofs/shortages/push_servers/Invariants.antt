use Rattle.std.proofs.Common.{◌≡◌, ◌++◌, take}
use Rattle.std.specs.List.{flat_map}
use Rattle.hsp_report.specs.ShortageReport.{reached_line}
use Rattle.hsp_report.proofs.shortages.push_servers.Given as goal

abbrev pub invariant-loop-server : goal.invariant-loop-server
invariant-loop-server l =
    l.out.items ≡ l.fn.out.items ++ flat_map (reached_line l.instance) (take l.server-index l.servers)
