use Rattle.std.proofs.Common.{◌≡◌, drop}
use Rattle.std.specs.List.{list_all}
use Rattle.hsp_cert.specs.Certificate.{is_row}
use Rattle.hsp_cert.proofs.ranges.are_rows.Given as goal

abbrev pub invariant-loop-row : goal.invariant-loop-row
invariant-loop-row l = list_all is_row (drop l.row-index l.rows) ≡ list_all is_row l.rows
