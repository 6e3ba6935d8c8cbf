use Rattle.std.proofs.Common.{None, slice_index_or}
use Rattle.hsp_network.specs.Layout.{Appends, host_node}
use Rattle.hsp_network.proofs.tables.push_hosts.Given as goal

abbrev pub invariant-loop-host : goal.invariant-loop-host
invariant-loop-host l =
    Appends l.fn.target.items l.target.items l.host-index (λ j. host_node (slice_index_or l.hosts j None))
