-- What the prices that `plan` prints say of inputs that differ in counts, capacities and limits only (Network Flows,
-- sections 9.3 and 9.4).
use Rattle.std.specs.Prelude.{◌≡◌, ℕ, ◌+◌, ◌≤◌, List, map}
use Rattle.hsp_transport.specs.Sums.{times}
use Rattle.hsp_cert.specs.Certificate as certificates
use Rattle.hsp_cert.specs.Certificate.Claim.{best}
use Rattle.hsp_instance.specs.Instance.{Host, Instance, Row}
use Rattle.hsp_check.specs.Claims.{OneChangeIsPriced, with_numbers}
use Rattle.hsp_check.specs.Instance.{capacities_in, demands_in, limits_in, network_of}
use Rattle.hsp_check.specs.Plan.{Feasible, Plan, total}
use Rattle.hsp_check.specs.Uses.{table}
use Rattle.hsp_inputs.specs.Headline.{Defines}
use Rattle.hsp_runs.specs.Shown.{Spells}
use Rattle.hsp_inputs.specs.declared.inputs.Inputs.{Inputs}

-- a row without its count, and a host without its limit
abbrev pub without_count : Row → Row
without_count row = record { region = row.region; handle = row.handle; count = 0 }

abbrev pub without_limit : Host → Host
without_limit host = record { address = host.address; limit = 0 }

-- The two inputs differ in counts, capacities and limits only: they state the same costs, sites, rows and hosts.
pub record DifferInNumbers (inputs others : Inputs) (it other : Instance) : Type 0 where
  pub costs : inputs.costs.items ≡ others.costs.items
  pub sites : it.sites ≡ other.sites
  pub rows : map without_count it.rows ≡ map without_count other.rows
  pub hosts : map without_limit it.hosts ≡ map without_limit other.hosts

-- What the prices of a plan for one instance say of another one. The two ask about networks that differ in their
-- numbers
-- only. No plan for the other one costs less than its rows pay beside what its servers and hosts take. What one number
-- that differs is worth is as `OneChangeIsPriced` says.
pub record PricesAnswer (it other : Instance) (plan : certificates.Best) : Type 0 where
  pub numbers : network_of other
      ≡ with_numbers (network_of it) (demands_in other) (capacities_in other) (limits_in other)
  pub bound : (y : Plan) → Feasible (network_of other) y →
      times (demands_in other) plan.row_prices
      ≤ total (network_of other) y
      + (times (capacities_in other) plan.server_prices + times (limits_in other) plan.host_prices)
  pub one_change : OneChangeIsPriced (network_of it) (table plan.uses) plan.row_prices plan.server_prices
      plan.host_prices

-- the prices of a printed plan say that of all inputs that differ in numbers only
abbrev pub PrintedPricesAnswer : Type 0
PrintedPricesAnswer =
    (inputs others : Inputs) (it other : Instance) (octets : List ℕ) (plan : certificates.Best)
    → Defines inputs it → Defines others other → DifferInNumbers inputs others it other → Spells octets it (best plan)
    → PricesAnswer it other plan
