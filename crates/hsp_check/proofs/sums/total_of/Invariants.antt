use Rattle.std.proofs.Common.{◌≡◌, ◌≤◌, ◌*◌, ◌^◌, take, sum_by}
use Rattle.hsp_check.proofs.sums.total_of.Given as goal

abbrev pub invariant-loop-place : goal.invariant-loop-place
invariant-loop-place l = record {
  so_far : l.sum ≡ sum_by (λ a. a.arc.cost * a.flow) (take l.place l.arc_flows);
  small : l.sum ≤ l.place * 2 ^ 84;
}
