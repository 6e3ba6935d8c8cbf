use Rattle.hsp_network.specs.InitialPotentials.{AreInitialPotentials}
use Rattle.hsp_network.proofs.initial_potentials.initial_potentials.Given as goal

abbrev pub invariant-loop-node : goal.invariant-loop-node
invariant-loop-node l = AreInitialPotentials l.node l.arcs.tails.now l.arcs.costs.now l.price.items
