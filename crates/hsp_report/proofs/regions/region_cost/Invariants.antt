use Rattle.std.proofs.Common.{◌≡◌, ◌≤◌, ◌*◌, ◌^◌, take, sum_by}
use Rattle.hsp_report.specs.Lent.{cost_in}
use Rattle.hsp_report.proofs.regions.region_cost.Given as goal

abbrev pub invariant-loop-place : goal.invariant-loop-place
invariant-loop-place l = record {
  so_far : l.sum ≡ sum_by (cost_in l.instance l.region) (take l.place l.arc_flows);
  small : l.sum ≤ l.place * 2 ^ 84;
}
