use Rattle.std.proofs.Common.{arith}
use Rattle.std.proofs.lemmas.Grind.{common_steps}
use Rattle.hsp_network.proofs.sums.host_sums.Goals as goal

pub add_hosts-requires-clause-zero : goal.add_hosts-requires-clause-zero
add_hosts-requires-clause-zero c = grind (arith, common_steps)

pub returns-then-add_hosts-clause-sums : goal.returns-then-add_hosts-clause-sums
returns-then-add_hosts-clause-sums c = grind (arith, common_steps)
