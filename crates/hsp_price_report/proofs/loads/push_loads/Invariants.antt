use Rattle.std.proofs.Common.{◌≡◌, ◌++◌}
use Rattle.std.specs.List.{flat_map, range_with_len}
use Rattle.hsp_price_report.specs.LoadReport.{line_by}
use Rattle.hsp_price_report.proofs.loads.push_loads.Given as goal

abbrev pub invariant-loop-server : goal.invariant-loop-server
invariant-loop-server l =
    l.out.items ≡ l.fn.out.items ++ flat_map (line_by l.instance l.loads l.prices) (range_with_len 0 l.server)
