-- What the regions of a report say together.
use Rattle.std.specs.Prelude.{◌≡◌, sum_by}
use Rattle.hsp_instance.specs.Instance.{Instance, IsInstance, regions_of}
use Rattle.hsp_check.specs.Instance.{network_of}
use Rattle.hsp_check.specs.Plan.{Plan, total}
use Rattle.hsp_report.specs.RegionReport.{region_cost, region_demand}

-- the regions ask together for what all rows ask for
abbrev pub DemandsAddUp : Type 0
DemandsAddUp = (it : Instance) → sum_by (region_demand it) (regions_of it.rows) ≡ sum_by (λ r. r.count) it.rows

-- their rows cost together what the plan costs
abbrev pub CostsAddUp : Type 0
CostsAddUp =
    (it : Instance) → IsInstance it → (x : Plan)
    → sum_by (region_cost it x) (regions_of it.rows) ≡ total (network_of it) x
