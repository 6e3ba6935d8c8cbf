-- What valid certificates show.
use Rattle.std.proofs.Common.{sym}
use Rattle.hsp_instance.specs.Instance.{Instance, IsInstance}
use Rattle.hsp_cert.specs.Certificate.{Best, Claim, Short}
use Rattle.hsp_cert.specs.Certificate.Claim.{best, short}
use Rattle.hsp_check.specs.Instance.{network_of}
use Rattle.hsp_check.specs.Network.{Network}
use Rattle.hsp_check.specs.Shown.{HasBestPlan, HasEqualSums, HasNoPlan}
use Rattle.hsp_check.specs.Short.{IsShort}
use Rattle.hsp_check.specs.Uses.{table}
use Rattle.hsp_check.specs.Valid.{IsValid, IsValidPlan, IsValidSet}
use Rattle.hsp_check.specs.Verdict.{is_one_of}
use Rattle.hsp_check.proofs.Duality.{prices_show_best, short_shows_none}
use Rattle.hsp_check.proofs.InstanceNetwork.{is_network}
use Rattle.hsp_runs.specs.Shown.{Holds, HoldsBest, HoldsShort}

-- a valid claim holds by what it shows
pub shown_holds : (n : Network) (claim : Claim) → IsValid n claim → HasBestPlan n claim → HasEqualSums n claim
    → HasNoPlan n claim → Holds n claim
shown_holds n (best c) valid is_best sums none = record {
  allowed = valid.allowed;
  best = is_best;
  cost = valid.cost;
  row_prices = valid.row_prices;
  server_prices = valid.server_prices;
  host_prices = valid.host_prices;
  prices = valid.prices;
  dual = sums;
}
shown_holds n (short c) valid is_best sums none =
    record {
      there = valid.there;
      demand = valid.demand;
      capacity = valid.capacity;
      less = rw (valid.capacity, valid.demand) valid.is_short;
      none = none;
    }

-- a valid claim holds
pub valid_holds : (it : Instance) (claim : Claim) → IsInstance it → IsValid (network_of it) claim
    → Holds (network_of it) claim
valid_holds it (best c) is valid =
    let n = network_of it in
    let shown =
    prices_show_best n (table c.uses) c.row_prices c.server_prices c.host_prices (is_network it is) valid.feasible
    valid.prices in
    shown_holds n (best c) valid shown.0 (rw valid.cost shown.1) tt
valid_holds it (short c) is valid =
    shown_holds (network_of it) (short c) valid tt tt
    (short_shows_none (network_of it) (is_one_of c.rows) (is_network it is) valid.is_short)

-- and a claim that holds is valid
plan_valid : (n : Network) (c : Best) → HoldsBest n c → IsValidPlan n c
plan_valid n c holds = record {
  allowed = holds.allowed;
  feasible = holds.best.feasible;
  cost = holds.cost;
  prices = holds.prices;
  row_prices = holds.row_prices;
  server_prices = holds.server_prices;
  host_prices = holds.host_prices;
}

-- a short set that holds is valid
set_valid : (n : Network) (c : Short) → HoldsShort n c → IsValidSet n c
set_valid n c holds =
    let less : IsShort n (is_one_of c.rows) = rw (sym holds.capacity, sym holds.demand) holds.less in
    record { there = holds.there; is_short = less; demand = holds.demand; capacity = holds.capacity }

-- a certificate that holds is valid
pub holds_valid : (n : Network) (claim : Claim) → Holds n claim → IsValid n claim
holds_valid n (best c) holds = plan_valid n c holds
holds_valid n (short c) holds = set_valid n c holds
