use Rattle.std.proofs.Common.{◌≡◌, List, sum_by, take}
use Rattle.hsp_instance.specs.Instance.{Row, regions_of}
use Rattle.hsp_prices.specs.Rows.{Service}
use Rattle.hsp_price_text.specs.Claim.{Best}
use Rattle.hsp_price_check.specs.Passed.{capped}
use Rattle.hsp_price_check.specs.Regions.{region_demand}
use Rattle.hsp_price_report.specs.ValidPass.{IsValidPass}
use Rattle.hsp_price_report.proofs.regions.total_demand.Given as goal

abbrev pub invariant-loop-number : goal.invariant-loop-number
invariant-loop-number l =
    (at : Service) (plan : Best) (rows : List Row) → IsValidPass at plan rows l.check
    → l.sum ≡ capped (sum_by (region_demand rows) (take l.number (regions_of rows)))
