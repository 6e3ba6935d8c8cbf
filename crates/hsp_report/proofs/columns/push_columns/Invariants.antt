use Rattle.std.proofs.Common.{◌≡◌, ◌++◌, drop}
use Rattle.hsp_report.specs.Columns.{column_line}
use Rattle.hsp_report.proofs.columns.push_columns.Given as goal

abbrev pub invariant-loop-column : goal.invariant-loop-column
invariant-loop-column l =
    l.out.items ++ column_line (drop l.column-index l.columns) l.name ≡ l.fn.out.items ++ column_line l.columns l.name
