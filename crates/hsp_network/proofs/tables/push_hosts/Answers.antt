use Rattle.std.proofs.Common.{refl}
use Rattle.hsp_network.proofs.Appending.{appends_none, appends_one}
use Rattle.hsp_network.proofs.tables.push_hosts.Goals as goal
use Rattle.hsp_network.proofs.tables.push_hosts.Goals.{in-Some, in-None}

pub loop-host-init : goal.loop-host-init
loop-host-init c = appends_none _ _

pub loop-host-preserved : goal.loop-host-preserved
loop-host-preserved c = appends_one _ _ _ _ _ _ c.loop-host.invariant c.in_ok-push.ensures.items
    (elim c.match-host.branch [
      | in-Some w ↦ rw (w.push-is, w.in-Some.is) refl
      | in-None w ↦ rw (w.push-is, w.in-None.is) refl
    ])
