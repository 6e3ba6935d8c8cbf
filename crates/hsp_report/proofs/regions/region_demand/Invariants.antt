use Rattle.std.proofs.Common.{◌≡◌, ◌≤◌, ◌*◌, ◌^◌, take, sum_by, if◌then◌else◌}
use Rattle.hsp_report.specs.RegionReport.{is_of}
use Rattle.hsp_report.proofs.regions.region_demand.Given as goal

abbrev pub invariant-loop-row : goal.invariant-loop-row
invariant-loop-row l = record {
  so_far : l.sum ≡ sum_by (λ r. if is_of l.region r then r.count else 0) (take l.row l.instance.rows);
  small : l.sum ≤ l.row * 2 ^ 64;
}
