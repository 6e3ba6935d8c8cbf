use Rattle.std.proofs.Common.{◌≡◌, ◌++◌, take, map}
use Rattle.hsp_check.specs.Index.{bare_arc}
use Rattle.hsp_check.proofs.indexing.push_arcs.Given as goal

abbrev pub invariant-loop-arc : goal.invariant-loop-arc
invariant-loop-arc l = l.arc_flows.items ≡ l.initial.arc_flows.items ++ map (bare_arc l.row) (take l.arc-index l.arcs)
