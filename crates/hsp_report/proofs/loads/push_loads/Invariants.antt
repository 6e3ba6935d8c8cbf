use Rattle.std.proofs.Common.{◌≡◌, ◌++◌}
use Rattle.std.specs.List.{flat_map, range_with_len}
use Rattle.hsp_report.specs.LoadReport.{load_line}
use Rattle.hsp_report.proofs.loads.push_loads.Given as goal

abbrev pub invariant-loop-server : goal.invariant-loop-server
invariant-loop-server l =
    l.out.items ≡ l.fn.out.items ++ flat_map (load_line l.instance l.plan) (range_with_len 0 l.server)
