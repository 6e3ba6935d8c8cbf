-- What a report is of: a check that has passed over rows, and whose verdict on a plan is yes.
use Rattle.std.specs.Prelude.{List}
use Rattle.hsp_tables.specs.Costs.{CostEntry}
use Rattle.hsp_instance.specs.Instance.{Instance, Row}
use Rattle.hsp_prices.specs.Rows.{Service}
use Rattle.hsp_price_text.specs.Claim.{Best}
use Rattle.hsp_price_text.specs.Certificate.{IsCertificate}
use Rattle.hsp_price_text.specs.declared.certificate.PriceCertificate.TheVariants as certificate
use Rattle.hsp_prices.specs.Verdict.{IsVerdict}
use Rattle.hsp_prices.specs.declared.verdict.PriceVerdict.TheVariants.{Yes}
use Rattle.hsp_price_check.specs.Checking.{IsPassed}
use Rattle.hsp_price_check.specs.Classes.{service_of}
use Rattle.hsp_price_check.specs.declared.checking.PriceCheck.{PriceCheck}

-- the check has passed over these rows, and the plan is valid for them
pub record IsValidPass (at : Service) (plan : Best) (rows : List Row) (check : PriceCheck) : Type 0 where
  pub passed : IsPassed at (certificate.Plan plan) rows check
  pub is : IsCertificate (certificate.Plan plan)
  pub valid : IsVerdict at rows (certificate.Plan plan) Yes

-- it is such a check of some plan and some rows
abbrev pub IsOfSome : PriceCheck → Type 0
IsOfSome check = (at : Service) × (plan : Best) × (rows : List Row) × IsValidPass at plan rows check

-- it is such a check of the instance and the plan
abbrev pub HasValidPass : Instance → Best → PriceCheck → Type 0
HasValidPass it plan check =
    (costs : List CostEntry) × (rows : List Row) × IsValidPass (service_of costs it) plan rows check
