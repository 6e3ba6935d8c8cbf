-- A check that has passed over the rows of a log, by an instance.
use Rattle.std.specs.Prelude.{List}
use Rattle.hsp_tables.specs.Costs.{CostEntry}
use Rattle.hsp_instance.specs.Instance.{Instance, Row}
use Rattle.hsp_price_text.specs.declared.certificate.PriceCertificate.{PriceCertificate}
use Rattle.hsp_price_check.specs.Checking.{IsPassed}
use Rattle.hsp_price_check.specs.Classes.{service_of}
use Rattle.hsp_price_check.specs.declared.checking.PriceCheck.{PriceCheck}

-- the check of a certificate has passed over some rows, by the instance and some costs
abbrev pub HasPassed : Instance → PriceCertificate → PriceCheck → Type 0
HasPassed it certificate check =
    (costs : List CostEntry) × (rows : List Row) × IsPassed (service_of costs it) certificate rows check
