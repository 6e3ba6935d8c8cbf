-- Kinds of rows are kinds of the sources of a network.
use Rattle.hsp_check.specs.Network.{site_of, transport}
use Rattle.hsp_transport.specs.Spread.{spread}
use Rattle.hsp_transport.proofs.Spreading.{is_spread}
use Rattle.hsp_prices.specs.Keeping.{KindsSpreadPlans}

-- a plan of kinds is spread to a plan of rows
pub kinds_spread_plans : KindsSpreadPlans
kinds_spread_plans n m kind n-is m-is are one y feasible =
    (spread (transport n) kind y, is_spread site_of (transport n) (transport m) kind n-is m-is are one y feasible)
