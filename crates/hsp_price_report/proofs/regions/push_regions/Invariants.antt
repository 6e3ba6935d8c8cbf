use Rattle.std.proofs.Common.{◌≡◌, ◌++◌, List, take}
use Rattle.std.specs.List.{flat_map}
use Rattle.hsp_instance.specs.Instance.{Row, regions_of}
use Rattle.hsp_prices.specs.Rows.{Service}
use Rattle.hsp_price_text.specs.Claim.{Best}
use Rattle.hsp_price_report.specs.RegionReport.{region_line}
use Rattle.hsp_price_report.specs.ValidPass.{IsValidPass}
use Rattle.hsp_price_report.proofs.regions.push_regions.Given as goal

abbrev pub invariant-loop-number : goal.invariant-loop-number
invariant-loop-number l =
    (at : Service) (plan : Best) (rows : List Row) → IsValidPass at plan rows l.check
    → l.out.items ≡ l.fn.out.items ++ flat_map (region_line at plan rows) (take l.number (regions_of rows))
