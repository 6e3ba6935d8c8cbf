use Rattle.std.proofs.Common.{◌<◌, length}
use Rattle.hsp_check.specs.declared.arc.NetworkArc.{NetworkArc}
use Rattle.hsp_check.specs.declared.sums.ArcFlow.{ArcFlow}
use Rattle.hsp_check.proofs.FlowSums.{all_of_map}
use Rattle.hsp_transport.proofs.Places.{hosts_below}
use Rattle.hsp_check.proofs.numbers.NetworkNumbers.with.Goals as goal

pub invariant_of-result-clause-server_hosts_in : goal.invariant_of-result-clause-server_hosts_in
invariant_of-result-clause-server_hosts_in c =
    rw (c.deref-4.ensures.value, c.deref-3.ensures.value)
    (hosts_below _ c.args.self.now.server_hosts.items (rw c.args.self.now.servers_many at c.requires.network.hosts))

pub invariant_of-result-clause-rows_in : goal.invariant_of-result-clause-rows_in
invariant_of-result-clause-rows_in c =
    rw c.deref.ensures.value
    (all_of_map (λ (l : ArcFlow). l.arc) (λ (a : NetworkArc). a.row < length c.args.self.now.demands.items)
    c.args.arc_flows.now c.requires.network.sources)

pub invariant_of-result-clause-servers_in : goal.invariant_of-result-clause-servers_in
invariant_of-result-clause-servers_in c =
    rw (c.deref-4.ensures.value, ← c.args.self.now.servers_many)
    (all_of_map (λ (l : ArcFlow). l.arc) (λ (a : NetworkArc). a.server < length c.args.self.now.capacities.items)
    c.args.arc_flows.now c.requires.network.servers)
