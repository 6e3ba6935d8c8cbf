use Rattle.std.proofs.Common.{◌≡◌, ◌++◌, drop, length}
use Rattle.hsp_check.specs.Instance.{arcs_from}
use Rattle.hsp_flow.specs.Planning.{uses_of}
use Rattle.hsp_flow.proofs.certify.uses_of.Given as goal

abbrev pub invariant-loop-row : goal.invariant-loop-row
invariant-loop-row l = record {
  many : length l.rest ≡ length (arcs_from l.row (drop l.row l.instance.arcs));
  so_far : l.uses.items ++ uses_of (arcs_from l.row (drop l.row l.instance.arcs)) l.rest
      ≡ uses_of (arcs_from 0 l.instance.arcs) l.flows;
}
