-- Which conditions are met when a reason is reported.
use Rattle.std.proofs.Common.{ℕ, ◌<◌, ◌≤◌, List, arith}
use Rattle.hsp_instance.specs.Instance.{Row}
use Rattle.hsp_prices.specs.Rows.{Service}
use Rattle.hsp_price_text.specs.Claim.{Best}
use Rattle.hsp_prices.specs.Verdict.{PlanMeets, number}
use Rattle.hsp_prices.specs.declared.verdict.PriceReason.{PriceReason}
use Rattle.hsp_prices.specs.declared.verdict.PriceReason.TheVariants.{Shape, NoSuchServer, NotLeast, NoClass, ClassSum}
use Rattle.hsp_prices.specs.declared.verdict.PriceReason.TheVariants.{Load, Cost, IdlePrice, DemandSum, CapacitySum}
use Rattle.hsp_prices.specs.declared.verdict.PriceReason.TheVariants.{NotShort}
use Rattle.hsp_price_check.specs.Verdicts.{MeetsClasses}

module _ (at : Service) (rows : List Row) (plan : Best) (shape : PlanMeets at rows plan Shape)
    (there : PlanMeets at rows plan NoSuchServer) where
  -- of classes and their rows, up to a reason
  pub of_classes : (n : ℕ) → n ≤ 5 → (3 < n → PlanMeets at rows plan NotLeast)
      → (4 < n → PlanMeets at rows plan NoClass) → (e : PriceReason) → number e < n → PlanMeets at rows plan e
  of_classes n few least placed Shape l = shape
  of_classes n few least placed NoSuchServer l = there
  of_classes n few least placed NotLeast l = least l
  of_classes n few least placed NoClass l = placed l
  of_classes n few least placed ClassSum l = absurd (omega (arith, l, few))
  of_classes n few least placed Load l = absurd (omega (arith, l, few))
  of_classes n few least placed Cost l = absurd (omega (arith, l, few))
  of_classes n few least placed IdlePrice l = absurd (omega (arith, l, few))
  of_classes n few least placed DemandSum l = tt
  of_classes n few least placed CapacitySum l = tt
  of_classes n few least placed NotShort l = tt

  module _ (meets : MeetsClasses at rows plan) where
    -- of loads and cost, up to a reason
    pub of_loads : (n : ℕ) → n ≤ 8 → (6 < n → PlanMeets at rows plan Load) → (7 < n → PlanMeets at rows plan Cost)
        → (e : PriceReason) → number e < n → PlanMeets at rows plan e
    of_loads n few load cost Shape l = shape
    of_loads n few load cost NoSuchServer l = there
    of_loads n few load cost NotLeast l = meets.least
    of_loads n few load cost NoClass l = meets.placed
    of_loads n few load cost ClassSum l = meets.sums
    of_loads n few load cost Load l = load l
    of_loads n few load cost Cost l = cost l
    of_loads n few load cost IdlePrice l = absurd (omega (arith, l, few))
    of_loads n few load cost DemandSum l = tt
    of_loads n few load cost CapacitySum l = tt
    of_loads n few load cost NotShort l = tt

    -- and all of them
    pub all : PlanMeets at rows plan Load → PlanMeets at rows plan Cost → PlanMeets at rows plan IdlePrice
        → (e : PriceReason) → PlanMeets at rows plan e
    all load cost idle Shape = shape
    all load cost idle NoSuchServer = there
    all load cost idle NotLeast = meets.least
    all load cost idle NoClass = meets.placed
    all load cost idle ClassSum = meets.sums
    all load cost idle Load = load
    all load cost idle Cost = cost
    all load cost idle IdlePrice = idle
    all load cost idle DemandSum = tt
    all load cost idle CapacitySum = tt
    all load cost idle NotShort = tt
