-- Certificates that are valid for a network.
use Rattle.std.specs.Prelude.{◌≡◌, ◌<◌, true, length, All}
use Rattle.hsp_cert.specs.Certificate.{Claim, Best as BestClaim, Short as ShortClaim}
use Rattle.hsp_cert.specs.Certificate.Claim.{best, short}
use Rattle.hsp_check.specs.Network.{Network, is_allowed}
use Rattle.hsp_check.specs.Plan.{Feasible, total}
use Rattle.hsp_check.specs.Prices.{Prices, ArePrices}
use Rattle.hsp_check.specs.Short.{IsShort, demand_of, capacity_of}
use Rattle.hsp_check.specs.Uses.{table}
use Rattle.hsp_check.specs.Verdict.{is_one_of}

-- the uses go where they may, their table is a feasible plan of that cost, and the prices are prices that fit it
pub record IsValidPlan (n : Network) (c : BestClaim) : Type 0 where
  pub allowed : All (λ u. is_allowed n u.row u.site ≡ true) c.uses
  pub feasible : Feasible n (table c.uses)
  pub cost : c.cost ≡ total n (table c.uses)
  pub prices : Prices n (table c.uses) c.row_prices c.server_prices c.host_prices
  pub row_prices : (length c.row_prices ≡ length n.demands) × ArePrices c.row_prices
  pub server_prices : (length c.server_prices ≡ length n.capacities) × ArePrices c.server_prices
  pub host_prices : (length c.host_prices ≡ length n.limits) × ArePrices c.host_prices

-- the rows are there and short, and the two sums are theirs
pub record IsValidSet (n : Network) (c : ShortClaim) : Type 0 where
  pub there : All (λ r. r < length n.demands) c.rows
  pub is_short : IsShort n (is_one_of c.rows)
  pub demand : c.demand ≡ demand_of n (is_one_of c.rows)
  pub capacity : c.capacity ≡ capacity_of n (is_one_of c.rows)

abbrev pub IsValid : Network → Claim → Type 0
IsValid n (best c) = IsValidPlan n c
IsValid n (short c) = IsValidSet n c
