use Rattle.std.proofs.Common.{take}
use Rattle.hsp_check.specs.Instance.{arcs_from}
use Rattle.hsp_flow.specs.Columns.{AreColumns}
use Rattle.hsp_flow.proofs.arcs.row_columns.Given as goal

abbrev pub invariant-loop-row : goal.invariant-loop-row
invariant-loop-row l = AreColumns (arcs_from 0 (take l.row l.instance.arcs)) l.columns
