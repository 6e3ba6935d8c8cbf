-- What a pass tests at its end.
use Rattle.std.specs.Prelude.{◌≡◌, ◌<◌, ℕ, List, length, slice_index, slice_index_or, sum, Option, Some, None}
use Rattle.hsp_instance.specs.Instance.{Row}
use Rattle.hsp_prices.specs.Rows.{Service}
use Rattle.hsp_price_text.specs.Claim.{Best, Class}
use Rattle.hsp_price_text.specs.declared.certificate.PriceCertificate.TheVariants.{Plan}
use Rattle.hsp_prices.specs.Verdict.{IsVerdict, PlanMeets}
use Rattle.hsp_prices.specs.declared.verdict.PriceReason.{PriceReason}
use Rattle.hsp_prices.specs.declared.verdict.PriceReason.TheVariants.{ClassSum, NoClass, NotLeast}
use Rattle.hsp_prices.specs.declared.verdict.PriceVerdict.TheVariants.{No}
use Rattle.hsp_price_check.specs.Passed.{capped, no_class}

-- each class sends what its rows ask for, as far as sums are kept
abbrev pub AreAskedFor : List Class → List ℕ → Type 0
AreAskedFor classes asked =
    (k : ℕ) → k < length classes
    → capped (sum (slice_index_or classes k no_class).amounts) ≡ slice_index asked k

-- the conditions of classes and their rows are met
pub record MeetsClasses (at : Service) (rows : List Row) (plan : Best) : Type 0 where
  pub least : PlanMeets at rows plan NotLeast
  pub placed : PlanMeets at rows plan NoClass
  pub sums : PlanMeets at rows plan ClassSum

-- the first reason by classes that stands, or these conditions are met
abbrev pub IsFirstOfClasses : Service → List Row → Best → Option PriceReason → Type 0
IsFirstOfClasses at rows plan None = MeetsClasses at rows plan
IsFirstOfClasses at rows plan (Some reason) = IsVerdict at rows (Plan plan) (No reason)
