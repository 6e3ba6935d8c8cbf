use Rattle.std.proofs.Common.{◌≡◌, ℕ, length, take}
use Rattle.std.specs.List.{list_any}
use Rattle.hsp_transport.specs.Lists.{flag_at}
use Rattle.hsp_prices.proofs.ShortArcs.{leads}
use Rattle.hsp_price_plan.specs.Columns.{arcs_of_groups}
use Rattle.hsp_price_plan.proofs.shortage.servers_reached.Given as goal

-- the servers of the groups so far
abbrev pub invariant-loop-number : goal.invariant-loop-number
invariant-loop-number l = record {
  many : length l.reached.items ≡ length l.numbers.server_hosts.items;
  reached :
      (j : ℕ) → flag_at l.reached.items j
      ≡ list_any (leads (flag_at l.set) j) (arcs_of_groups (take l.number l.groups));
}
