-- Rows without a certificate that a text can say.
use Rattle.std.specs.Prelude.{◌≡◌, ◌<◌, ◌⊎◌, ℕ, true, List, length}
use Rattle.std.specs.List.{list_all}
use Rattle.hsp_text.specs.declared.limits.TheConstants.{GREATEST_SUM, MOST_HOSTS, MOST_SERVERS}
use Rattle.hsp_cert.specs.Certificate.{are_prices_within, ascends}
use Rattle.hsp_instance.specs.Instance.{Row}
use Rattle.hsp_prices.specs.Rows.{Service}
use Rattle.hsp_price_text.specs.Claim.{Best, Short, are_servers, is_before, is_class}
use Rattle.hsp_price_text.specs.declared.certificate.PriceCertificate.{PriceCertificate}
use Rattle.hsp_price_text.specs.declared.certificate.PriceCertificate.TheVariants.{Plan, Shortage}
use Rattle.hsp_prices.specs.Verdict.{IsVerdict}
use Rattle.hsp_prices.specs.declared.verdict.PriceVerdict.TheVariants.{Yes}
use Rattle.hsp_price_plan.specs.declared.network.TheConstants.{MOST_GROUPS}

-- the most classes of a text
abbrev pub most_classes : ℕ
most_classes = 1048576

-- a plan that is within the orders and ranges of a text, but that its cost is too great or it has too many classes
pub record IsPlanPast (plan : Best) : Type 0 where
  pub server_prices : are_prices_within MOST_SERVERS plan.server_prices ≡ true
  pub host_prices : are_prices_within MOST_HOSTS plan.host_prices ≡ true
  pub classes : list_all is_class plan.classes ≡ true
  pub order : ascends is_before plan.classes ≡ true
  pub past : (GREATEST_SUM < plan.cost) ⊎ (most_classes < length plan.classes)

-- a short set of servers that is, but that one of its sums is too great
pub record IsShortPast (short : Short) : Type 0 where
  pub servers : are_servers short.servers ≡ true
  pub past : (GREATEST_SUM < short.demand) ⊎ (GREATEST_SUM < short.capacity)

abbrev pub IsPast : PriceCertificate → Type 0
IsPast (Plan plan) = IsPlanPast plan
IsPast (Shortage short) = IsShortPast short

-- such a certificate is valid for the rows, or there are more of them than groups whose network is solved
abbrev pub AreTooLarge : Service → List Row → Type 0
AreTooLarge at rows =
    ((certificate : PriceCertificate) × IsVerdict at rows certificate Yes × IsPast certificate)
    ⊎ (MOST_GROUPS < length rows)
