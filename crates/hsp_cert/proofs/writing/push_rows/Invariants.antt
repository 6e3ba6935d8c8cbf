use Rattle.std.proofs.Common.{◌≡◌, ◌++◌, map, drop}
use Rattle.hsp_cert.specs.Text.{line_of, unlines, row_items}
use Rattle.hsp_cert.proofs.writing.push_rows.Given as goal

abbrev pub invariant-loop-row : goal.invariant-loop-row
invariant-loop-row l =
    l.out.items ++ unlines (map line_of (row_items (drop l.row-index l.rows))) ≡ l.fn.out.items
    ++ unlines (map line_of (row_items l.rows))
