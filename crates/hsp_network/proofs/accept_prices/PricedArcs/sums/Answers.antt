use Rattle.std.proofs.Common.{arith}
use Rattle.std.proofs.lemmas.Grind.{common_steps}
use Rattle.hsp_network.proofs.accept_prices.PricedArcs.sums.Goals as goal

pub add_up-requires-clause-unsent : goal.add_up-requires-clause-unsent
add_up-requires-clause-unsent c = grind (arith, common_steps)

pub add_up-requires-clause-unloaded : goal.add_up-requires-clause-unloaded
add_up-requires-clause-unloaded c = grind (arith, common_steps)

pub returns-then-add_up-clause-sums : goal.returns-then-add_up-clause-sums
returns-then-add_up-clause-sums c = grind (arith, common_steps)
