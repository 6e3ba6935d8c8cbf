-- Dual prices of a plan: no reduced cost is negative, and slack goes with price 0 (complementary slackness, Network
-- Flows, section 9.4).
use Rattle.std.specs.Prelude.{ℕ, ◌≤◌, List, All}
use Rattle.hsp_text.specs.declared.limits.TheConstants.{GREATEST_PRICE}
use Rattle.hsp_check.specs.Network.{Network, transport}
use Rattle.hsp_check.specs.Plan.{Plan, planned}
use Rattle.hsp_transport.specs.Prices as theory
pub use Rattle.hsp_transport.specs.Prices.{at_host}

-- what a query to the server pays beside the arc's cost: the server's price and its host's
abbrev pub price_at : Network → List ℕ → List ℕ → ℕ → ℕ
price_at n p q j = theory.price_at (transport n) p q j

-- The rows' prices u, the servers' p and the hosts' q fit the plan.
abbrev pub Prices : Network → Plan → List ℕ → List ℕ → List ℕ → Type 0
Prices n x u p q = theory.HasPrices (transport n) (planned x) u p q

-- each price is within the limit
abbrev pub ArePrices : List ℕ → Type 0
ArePrices prices = All (λ v. v ≤ GREATEST_PRICE) prices
