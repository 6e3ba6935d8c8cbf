-- The check of a certificate by prices, as rows come in.
use Rattle.std.specs.Prelude.{◌≡◌, ◌<◌, ◌≤◌, List, Option, Some, None, length}
use Rattle.hsp_tables.specs.Costs.{AreCosts}
use Rattle.hsp_text.specs.declared.limits.TheConstants.{MOST_LOG_REGIONS}
use Rattle.hsp_instance.specs.Instance.{Row, regions_of}
use Rattle.hsp_prices.specs.Rows.{Service}
use Rattle.hsp_price_text.specs.Claim.{Best, Short}
use Rattle.hsp_price_text.specs.declared.certificate.PriceCertificate.{PriceCertificate}
use Rattle.hsp_price_text.specs.declared.certificate.PriceCertificate.TheVariants as certificate
use Rattle.hsp_prices.specs.Shown.{IsService}
use Rattle.hsp_prices.specs.Verdict.{IsVerdict}
use Rattle.hsp_prices.specs.declared.verdict.PriceVerdict.TheVariants.{No}
use Rattle.hsp_price_check.specs.Classes.{service_of}
use Rattle.hsp_price_check.specs.PlanPass.{IsPlanPass}
use Rattle.hsp_price_check.specs.Regions.{AreRegionSums, cost_by}
use Rattle.hsp_price_check.specs.SetPass.{IsSetPass}
use Rattle.hsp_price_check.specs.declared.checking.Judge.{Judge}
use Rattle.hsp_price_check.specs.declared.checking.Judge.TheVariants as judge
use Rattle.hsp_price_check.specs.declared.checking.PriceCheck.{PriceCheck}

-- there are more regions than rows may name
abbrev pub HasTooMany : List Row → Type 0
HasTooMany rows = MOST_LOG_REGIONS < length (regions_of rows)

-- Who judges a certificate has passed over these rows.
abbrev pub IsJudge : Service → PriceCertificate → List Row → Judge → Type 0
-- a reason stands whatever the rows are
IsJudge at claim rows (judge.Refused reason) = (any : List Row) → IsVerdict at any claim (No reason)
IsJudge at claim rows (judge.Plan pass) =
    (plan : Best) × (claim ≡ certificate.Plan plan) × IsPlanPass at plan rows pass
IsJudge at claim rows (judge.Set pass) =
    (set : Short) × (claim ≡ certificate.Shortage set) × IsSetPass at set rows pass

-- the plan that is judged, where no reason stands against it whatever the rows are
abbrev pub judged_plan : Judge → Option Best
judged_plan (judge.Refused reason) = None
judged_plan (judge.Plan pass) = Some pass.plan.now
judged_plan (judge.Set pass) = None

-- the check has passed over these rows, which name no more regions than they may
pub record IsPassed (at : Service) (certificate : PriceCertificate) (rows : List Row)
    (check : PriceCheck) : Type 0 where
  pub service : IsService at
  pub costs : AreCosts at.costs
  pub costs_are : check.arcs.costs ≡ at.costs
  pub sites_are : check.arcs.sites ≡ at.sites
  pub regions_are : check.arcs.regions ≡ regions_of rows
  pub few_regions : length (regions_of rows) ≤ MOST_LOG_REGIONS
  pub judge : IsJudge at certificate rows check.judge
  pub service_is : at ≡ service_of check.costs.now check.instance.now
  pub regions : AreRegionSums (cost_by at (judged_plan check.judge)) rows check.regions.items

abbrev pub IsOfSomeRows : PriceCheck → Type 0
IsOfSomeRows check =
    (at : Service) × (certificate : PriceCertificate) × (rows : List Row) × IsPassed at certificate rows check
