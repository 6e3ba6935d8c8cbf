use Rattle.std.proofs.Common.{◌≡◌, ◌++◌, take, map}
use Rattle.hsp_check.specs.Instance.{arc_of}
use Rattle.hsp_flow.specs.Planning.{row_of, server_of, cost_of}
use Rattle.hsp_flow.proofs.arcs.ArcColumns.push_arcs.Given as goal

abbrev pub invariant-loop-arc : goal.invariant-loop-arc
invariant-loop-arc l = record {
  sources : l.self.sources.items ≡ l.fn.self.sources.items
      ++ map row_of (map (arc_of l.source) (take l.arc-index l.arcs));
  servers : l.self.servers.items ≡ l.fn.self.servers.items
      ++ map server_of (map (arc_of l.source) (take l.arc-index l.arcs));
  costs : l.self.costs.items ≡ l.fn.self.costs.items ++ map cost_of (map (arc_of l.source) (take l.arc-index l.arcs));
}
