-- A check by prices takes rows as it passes over them.
use Rattle.std.proofs.Common.{◌≡◌, ◌⊎◌, ◌++◌, inl, inr, List, [], ◌∷◌}
use Rattle.hsp_instance.specs.Instance.{Row}
use Rattle.hsp_prices.specs.Rows.{Service}
use Rattle.hsp_price_text.specs.declared.certificate.PriceCertificate.{PriceCertificate}
use Rattle.hsp_price_check.specs.Checking.{HasTooMany, IsPassed}
use Rattle.hsp_price_check.specs.declared.checking.PriceCheck.{PriceCheck}
use Rattle.hsp_price_check.specs.declared.fault.PassFault.{PassFault}
use Rattle.hsp_price_check.specs.declared.fault.PassFault.TheVariants.{OutOfMemory, TooManyRegions}
use Rattle.hsp_price_runs.specs.Passing.{StopsAt, Takes}
use Rattle.hsp_price_runs.specs.Taking.{HasPassedOver}

-- the certificate is judged by the rows so far
module _ (first now : PriceCheck) (rows : List Row) (has : HasPassedOver first rows now) where
  -- by the check as it is now
  pub over : IsPassed has.at has.certificate rows now
  over = has.passed has.at has.certificate has.fresh

-- a check that passes over a row has taken it
pub passes_over : (row : Row) (old new : PriceCheck)
    → ((at : Service) (certificate : PriceCertificate) (rows : List Row) → IsPassed at certificate rows old
    → IsPassed at certificate (rows ++ row ∷ []) new)
    → Takes HasPassedOver row old new
passes_over row old new step first rows has =
    let own = step has.at has.certificate rows (over first old rows has) in (
      record {
        at = has.at;
        certificate = has.certificate;
        fresh = has.fresh;
        passed = λ at claim fresh. step at claim rows (has.passed at claim fresh);
      },
      own.few_regions,
    )

-- where it stops at a row, that makes a region too many
pub stops_over : (row : Row) (old : PriceCheck) (fault : PassFault)
    → (fault ≡ OutOfMemory)
    ⊎ ((fault ≡ TooManyRegions)
    × ((at : Service) (certificate : PriceCertificate) (rows : List Row) → IsPassed at certificate rows old
    → HasTooMany (rows ++ row ∷ [])))
    → (fault ≡ OutOfMemory) ⊎ StopsAt HasPassedOver row old fault
stops_over row old fault (inl memory) = inl memory
stops_over row old fault (inr (is, all)) =
    inr (is, (λ first rows has. all has.at has.certificate rows (over first old rows has)))
