use Rattle.hsp_network.proofs.Starting.{first_more}
use Rattle.hsp_network.proofs.initial_potentials.initial_potentials.Goals as goal

pub loop-node-preserved : goal.loop-node-preserved
loop-node-preserved c = rw c.in_ok-push.ensures.items (first_more _ _ _ _ _ c.loop-node.invariant c.least_cost.ensures)
