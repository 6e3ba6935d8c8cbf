use Rattle.std.proofs.Common.{◌≡◌, ◌++◌, take}
use Rattle.hsp_check.specs.Plan.{Plan}
use Rattle.hsp_check.specs.Planned.{ArePlanned}
use Rattle.hsp_report.specs.Lent.{names_in}
use Rattle.hsp_report.specs.RegionReport.{region_lines}
use Rattle.hsp_report.proofs.regions.push_regions.Given as goal

abbrev pub invariant-loop-region : goal.invariant-loop-region
invariant-loop-region l =
    (x : Plan) → ArePlanned l.instance x l.arc_flows
    → l.out.items ≡ l.fn.out.items ++ region_lines l.instance x (names_in (take l.region-index l.regions))
