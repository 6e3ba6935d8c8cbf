-- The network of groups over the servers of a service, and what the solver has to be given.
use Rattle.std.specs.Prelude.{◌≤◌, ℕ, List, length, map, sum_by}
use Rattle.std.specs.List.{AllByRecursion}
use Rattle.hsp_text.specs.declared.limits.TheConstants.{MOST_SITES}
use Rattle.hsp_instance.specs.RowArcs.{IsWithin}
use Rattle.hsp_network.specs.Network.{Transport}
use Rattle.hsp_network.specs.Answer.{Answers}
use Rattle.hsp_network.specs.declared.network.Outcome.{Outcome}
use Rattle.hsp_prices.specs.Rows.{Service}
use Rattle.hsp_prices.specs.Groups.{Group, network_of_groups}
use Rattle.hsp_price_check.specs.PlanPass.{AreNumbersOf}
use Rattle.hsp_price_check.specs.declared.numbers.ServiceNumbers.{ServiceNumbers}
use Rattle.hsp_price_plan.specs.Columns.{arcs_of_groups}

-- the network of groups, by the numbers of the servers and hosts
abbrev pub group_network : ServiceNumbers → List Group → Transport
group_network numbers groups = record {
  demands = map (λ group. group.demand) groups;
  capacities = numbers.capacities.items;
  limits = numbers.limits.items;
  hosts = numbers.server_hosts.items;
  sources = map (λ a. a.row) (arcs_of_groups groups);
  servers = map (λ a. a.server) (arcs_of_groups groups);
  costs = map (λ a. a.cost) (arcs_of_groups groups);
}

-- each arc of a group leads to one of so many servers, at a cost within its limit
abbrev pub HasArcsWithin : ℕ → Group → Type 0
HasArcsWithin servers group = AllByRecursion (IsWithin servers) group.arcs

-- a group has no more arcs than there may be sites
abbrev pub HasFewArcs : Group → Type 0
HasFewArcs group = length group.arcs ≤ MOST_SITES

-- how many arcs groups have together
abbrev pub arcs_in : List Group → ℕ
arcs_in groups = sum_by (λ group. length group.arcs) groups

-- what groups ask for together
abbrev pub demand_in : List Group → ℕ
demand_in groups = sum_by (λ group. group.demand) groups

-- the outcome is that of the groups' network, for every service of these numbers
abbrev pub IsOutcomeOf : ServiceNumbers → List Group → Outcome → Type 0
IsOutcomeOf numbers groups outcome =
    (at : Service) → AreNumbersOf at numbers → Answers (network_of_groups at groups) outcome
