use Rattle.hsp_flow.proofs.InColumns.{columns_more}
use Rattle.hsp_flow.proofs.arcs.row_columns.Goals as goal

pub loop-row-preserved : goal.loop-row-preserved
loop-row-preserved c =
    columns_more c.args.instance.now.arcs c.loop-row.row c.arcs.result.now c.arcs.ensures c.loop-row.columns
    c.push_arcs.new.self c.loop-row.invariant c.in_ok-push_arcs.ensures
