use Rattle.std.proofs.Common.{take}
use Rattle.hsp_check.specs.Index.{IsIndexed}
use Rattle.hsp_check.proofs.indexing.arcs_of.Given as goal

abbrev pub invariant-loop-row : goal.invariant-loop-row
invariant-loop-row l = IsIndexed (take l.row l.instance.arcs) l.arc_flows.items l.runs
