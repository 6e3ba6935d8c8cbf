use Rattle.std.proofs.Common.{take}
use Rattle.hsp_dispatch.specs.Standings.{AreSoles}
use Rattle.hsp_dispatch.proofs.plan_cells.PlanCells.of.Given as goal

-- the servers of the rows so far are named
abbrev pub invariant-loop-row : goal.invariant-loop-row
invariant-loop-row l = AreSoles l.soles.items (take l.row-index l.row-items)
