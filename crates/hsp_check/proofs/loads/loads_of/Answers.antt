use Rattle.std.proofs.Common.{rules}
use Rattle.hsp_check.proofs.PlanSummed.{are_loads}
use Rattle.hsp_check.proofs.loads.loads_of.Goals as goal

pub returns : goal.returns
returns c =
    are_loads c.args.lists
    (record { rows = c.in_ok-rows.rows; servers = c.in_ok-servers.servers; hosts = c.in_ok-hosts.hosts })
    c.args.lists.servers_many
    (record {
      rows_many = search rules;
      rows_are = c.in_ok-rows.ensures.sums;
      servers_many = search rules;
      servers_are = c.in_ok-servers.ensures.sums;
      hosts_many = search rules;
      hosts_are = rw c.deref.ensures.value at c.in_ok-hosts.ensures.sums;
    })
