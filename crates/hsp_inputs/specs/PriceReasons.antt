-- The names of the reasons against a certificate by prices.
use Rattle.std.specs.Prelude.{ℕ, List, codes}
use Rattle.hsp_prices.specs.declared.verdict.PriceReason.{PriceReason}
use Rattle.hsp_prices.specs.declared.verdict.PriceReason.TheVariants.{Shape, NoSuchServer, NotLeast, NoClass, ClassSum}
use Rattle.hsp_prices.specs.declared.verdict.PriceReason.TheVariants.{Load, Cost, IdlePrice, DemandSum, CapacitySum}
use Rattle.hsp_prices.specs.declared.verdict.PriceReason.TheVariants.{NotShort}

abbrev pub reason_word : PriceReason → List ℕ
reason_word Shape = codes "Shape"
reason_word NoSuchServer = codes "NoSuchServer"
reason_word NotLeast = codes "NotLeast"
reason_word NoClass = codes "NoClass"
reason_word ClassSum = codes "ClassSum"
reason_word Load = codes "Load"
reason_word Cost = codes "Cost"
reason_word IdlePrice = codes "IdlePrice"
reason_word DemandSum = codes "DemandSum"
reason_word CapacitySum = codes "CapacitySum"
reason_word NotShort = codes "NotShort"
