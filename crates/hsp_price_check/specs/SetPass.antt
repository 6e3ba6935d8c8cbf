-- A pass over rows that judges the certificate of a short set of servers.
use Rattle.std.specs.Prelude.{◌≡◌, ℕ, List, [], length}
use Rattle.hsp_instance.specs.Instance.{Row}
use Rattle.hsp_check.specs.ArcFlows.{host_in}
use Rattle.hsp_check.specs.Lists.{AreFlagsOf}
use Rattle.hsp_check.specs.Network.{Network}
use Rattle.hsp_check.specs.Verdict.{is_one_of}
use Rattle.hsp_prices.specs.Rows.{Service, network_for}
use Rattle.hsp_price_text.specs.Claim.{Short}
use Rattle.hsp_prices.specs.ServerSets.{capacity_of_servers}
use Rattle.hsp_prices.specs.Sums.{caught_in_all}
use Rattle.hsp_prices.specs.Verdict.{AreThere}
use Rattle.hsp_price_check.specs.Passed.{capped}
use Rattle.hsp_price_check.specs.declared.numbers.ServiceNumbers.{ServiceNumbers}
use Rattle.hsp_price_check.specs.declared.set_pass.SetPass.{SetPass}

-- the network of these numbers, without a row
abbrev pub network_by : ServiceNumbers → Network
network_by numbers = record {
  demands = [];
  capacities = numbers.capacities.items;
  limits = numbers.limits.items;
  host_of = host_in numbers.server_hosts.items;
  arcs = [];
}

-- what servers take by these numbers, those of a host no more than its limit
abbrev pub capacity_by : ServiceNumbers → List ℕ → ℕ
capacity_by numbers servers = capacity_of_servers (network_by numbers) (is_one_of servers)

pub record IsSetPass (at : Service) (set : Short) (rows : List Row) (pass : SetPass) : Type 0 where
  pub set_is : pass.set.now ≡ set
  pub there : AreThere at set.servers
  pub flags_many : length pass.flags.items ≡ length at.servers
  pub flags : AreFlagsOf (is_one_of set.servers) (length at.servers) pass.flags.items
  pub capacity : pass.capacity ≡ capacity_of_servers (network_for at []) (is_one_of set.servers)
  pub demand : pass.demand ≡ capped (caught_in_all at set.servers rows)
