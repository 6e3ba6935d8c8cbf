use Rattle.std.proofs.Common.{◌≡◌, ◌≤◌, ◌*◌, length, take}
use Rattle.std.specs.List.{sum_by}
use Rattle.hsp_instance.proofs.instance.Instance.arc_count.Given as goal

abbrev pub invariant-loop-row : goal.invariant-loop-row
invariant-loop-row l = record {
  so_far : l.count ≡ sum_by (λ arcs. length arcs) (take l.row l.self.arcs);
  small : l.count ≤ l.row * 32;
}
