-- The certificate of a plan, by parts that are lent, and what it has to meet.
use Rattle.std.specs.Prelude.{◌≡◌, ℕ, List, length}
use Rattle.hsp_cert.specs.Certificate.{Best as BestClaim}
use Rattle.hsp_cert.specs.declared.use_line.UseLine.{UseLine}
use Rattle.hsp_check.specs.declared.numbers.NetworkNumbers.{NetworkNumbers}
use Rattle.hsp_check.specs.declared.prices.PriceLists.{PriceLists}

-- as many prices as rows, as servers and as hosts
abbrev pub IsShaped : NetworkNumbers → BestClaim → Type 0
IsShaped numbers plan =
    (length plan.row_prices ≡ length numbers.demands.items)
    × (length plan.server_prices ≡ length numbers.capacities.items)
    × (length plan.host_prices ≡ length numbers.limits.items)

-- the certificate of these parts
abbrev pub claim_of : ℕ → List UseLine → PriceLists → BestClaim
claim_of cost uses prices = record {
  cost = cost;
  uses = uses;
  row_prices = prices.rows.now;
  server_prices = prices.servers.now;
  host_prices = prices.hosts.now;
}
