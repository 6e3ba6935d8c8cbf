-- A check by prices, as it passes over the rows of a log.
use Rattle.std.specs.Prelude.{List, []}
use Rattle.hsp_instance.specs.Instance.{Row}
use Rattle.hsp_prices.specs.Rows.{Service}
use Rattle.hsp_price_text.specs.declared.certificate.PriceCertificate.{PriceCertificate}
use Rattle.hsp_price_check.specs.Checking.{IsPassed}
use Rattle.hsp_price_check.specs.declared.checking.PriceCheck.{PriceCheck}

-- a check that had passed over no row has passed over these, whatever certificate it judges
pub record HasPassedOver (first : PriceCheck) (rows : List Row) (now : PriceCheck) : Type 0 where
  pub at : Service
  pub certificate : PriceCertificate
  pub fresh : IsPassed at certificate [] first
  pub passed : (own : Service) (claim : PriceCertificate) → IsPassed own claim [] first → IsPassed own claim rows now
