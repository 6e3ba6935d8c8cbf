-- What the regions of a report say together.
use Rattle.std.specs.Prelude.{◌≡◌, List, sum_by}
use Rattle.hsp_instance.specs.Instance.{Row, regions_of}
use Rattle.hsp_prices.specs.Rows.{Service}
use Rattle.hsp_price_text.specs.Claim.{Best}
use Rattle.hsp_price_text.specs.declared.certificate.PriceCertificate.TheVariants.{Plan}
use Rattle.hsp_prices.specs.Verdict.{IsVerdict}
use Rattle.hsp_prices.specs.declared.verdict.PriceVerdict.TheVariants.{Yes}
use Rattle.hsp_price_check.specs.Regions.{region_cost, region_demand}

-- the regions ask together for what all rows ask for
abbrev pub DemandsAddUp : Type 0
DemandsAddUp = (rows : List Row) → sum_by (region_demand rows) (regions_of rows) ≡ sum_by (λ row. row.count) rows

-- they cost together what a valid plan costs
abbrev pub CostsAddUp : Type 0
CostsAddUp =
    (at : Service) (plan : Best) (rows : List Row) → IsVerdict at rows (Plan plan) Yes
    → sum_by (region_cost at plan rows) (regions_of rows) ≡ plan.cost
