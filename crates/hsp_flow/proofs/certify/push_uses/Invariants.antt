use Rattle.std.proofs.Common.{◌≡◌, ◌++◌, drop, map}
use Rattle.hsp_check.specs.Instance.{arc_of}
use Rattle.hsp_flow.specs.Planning.{uses_of}
use Rattle.hsp_flow.proofs.certify.push_uses.Given as goal

abbrev pub invariant-loop-place : goal.invariant-loop-place
invariant-loop-place l =
    l.uses.items ++ uses_of (map (arc_of l.row) (drop l.place l.arcs)) (drop l.place l.flows) ≡ l.fn.uses.items
    ++ uses_of (map (arc_of l.row) l.arcs) l.flows
