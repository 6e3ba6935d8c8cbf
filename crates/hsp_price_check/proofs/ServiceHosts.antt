-- The hosts of a service's servers are there.
use Rattle.std.proofs.Common.{arith, length}
use Rattle.std.proofs.lemmas.List.{length-map}
use Rattle.hsp_instance.specs.Instance.{Instance, IsInstance, Server}
use Rattle.hsp_check.specs.Instance.{limits_in, server_hosts_in}
use Rattle.hsp_check.specs.Lists.{HostsAreBelow}
use Rattle.hsp_check.proofs.InstanceNetwork.{is_network}
use Rattle.hsp_transport.proofs.Places.{hosts_below}

-- each host that a server of an instance stands on is one of the instance's hosts
pub hosts_are_below : (it : Instance) → IsInstance it → HostsAreBelow (length (limits_in it)) (server_hosts_in it)
hosts_are_below it is =
    hosts_below (length (limits_in it)) (server_hosts_in it) (λ j h l on.
    (is_network it is).hosts j h
    (omega (
      arith,
      length-map it.servers (λ (s : Server). s.capacity),
      length-map it.servers (λ (s : Server). s.host),
    ))
    on)
