use Rattle.std.proofs.Common.{◌∙◌, sym, ap, length, arith}
use Rattle.std.proofs.lemmas.List.{length-map}
use Rattle.hsp_price_check.proofs.ServiceHosts.{hosts_are_below}
use Rattle.hsp_price_check.proofs.numbers.service_numbers.Goals as goal

pub invariant_of-result : goal.invariant_of-result
invariant_of-result c = record {
  servers_many =
      ap length c.in_ok-capacities.ensures.capacities ∙ length-map _ _
      ∙ sym (ap length c.in_ok-server_hosts.ensures.hosts ∙ length-map _ _);
  few_servers = omega (arith, c.in_ok-server_hosts.ensures.few);
  few_hosts = omega (arith, c.in_ok-limits.ensures.few);
  hosts_in =
      rw (c.in_ok-limits.ensures.limits, c.in_ok-server_hosts.ensures.hosts)
      (hosts_are_below c.args.instance.now c.servers-servers.ensures.within);
}
