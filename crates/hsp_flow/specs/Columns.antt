-- The columns of arcs: of each arc its row, its server and its cost.
use Rattle.std.specs.Prelude.{◌≡◌, List, ◌++◌, map}
use Rattle.hsp_check.specs.declared.arc.NetworkArc.{NetworkArc}
use Rattle.hsp_flow.specs.declared.arcs.ArcColumns.{ArcColumns}
use Rattle.hsp_flow.specs.Planning.{row_of, server_of, cost_of}

-- the columns are those of these arcs
pub record AreColumns (arcs : List NetworkArc) (columns : ArcColumns) : Type 0 where
  pub sources : columns.sources.items ≡ map row_of arcs
  pub servers : columns.servers.items ≡ map server_of arcs
  pub costs : columns.costs.items ≡ map cost_of arcs

-- the columns are those of before, and behind them those of these arcs
pub record Extends (before : ArcColumns) (arcs : List NetworkArc) (columns : ArcColumns) : Type 0 where
  pub sources : columns.sources.items ≡ before.sources.items ++ map row_of arcs
  pub servers : columns.servers.items ≡ before.servers.items ++ map server_of arcs
  pub costs : columns.costs.items ≡ before.costs.items ++ map cost_of arcs
