-- What a set of servers takes, by the rooms of its servers and hosts.
use Rattle.std.proofs.Common.{◌≡◌, ◌+◌, ◌∙◌, ℕ, List, [], Bool, ap, length, refl, sym, true, if◌then◌else◌, slice_index}
use Rattle.hsp_check.specs.ArcFlows.{flag_at, host_in}
use Rattle.hsp_check.specs.Lists.{AreFlagsOf, AreHosted, AreRooms, free_sum, hosted_sum}
use Rattle.hsp_check.specs.Verdict.{is_one_of}
use Rattle.hsp_transport.specs.Network.{Network}
use Rattle.hsp_transport.proofs.Capacities.{capacity_is}
use Rattle.hsp_price_check.specs.SetPass.{capacity_by}
use Rattle.hsp_price_check.specs.declared.numbers.ServiceNumbers.{ServiceNumbers}

module _ (numbers : ServiceNumbers) (servers : List ℕ) where
  -- the network of which each server of the set is an arc, from one source
  network : Network ℕ
  network = record {
    demands = [];
    capacities = numbers.capacities.items;
    limits = numbers.limits.items;
    host_of = host_in numbers.server_hosts.items;
    arcs = servers;
    source = λ j. 0;
    server = λ j. j;
    cost = λ j. 0;
  }

  -- the sums of rooms are what the set takes
  pub set_capacity : (flags : List Bool) (rooms sums : List ℕ)
      → AreFlagsOf (is_one_of servers) (length numbers.capacities.items) flags
      → AreRooms numbers.capacities.items (flag_at flags) rooms → length sums ≡ length numbers.limits.items
      → AreHosted numbers.server_hosts.items rooms sums
      → free_sum numbers.server_hosts.items rooms (length numbers.server_hosts.items)
      + hosted_sum numbers.limits.items sums (length numbers.limits.items)
      ≡ capacity_by numbers servers
  unfolding network
  set_capacity flags rooms sums flagged are many hosted =
      capacity_is network numbers.server_hosts.items refl (sym numbers.servers_many) (λ i. true) rooms sums many
      (λ j l. are j l ∙ ap (λ b. if b then slice_index numbers.capacities.items j else 0) (flagged j l)) hosted
