use Rattle.std.proofs.Common.{◌≡◌, ◌≤◌, ◌*◌, ◌^◌, take, sum_by}
use Rattle.hsp_report.proofs.regions.total_demand.Given as goal

abbrev pub invariant-loop-row : goal.invariant-loop-row
invariant-loop-row l = record {
  so_far : l.sum ≡ sum_by (λ r. r.count) (take l.row l.instance.rows);
  small : l.sum ≤ l.row * 2 ^ 64;
}
