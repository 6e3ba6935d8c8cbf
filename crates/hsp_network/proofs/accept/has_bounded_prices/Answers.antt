use Rattle.std.proofs.Common.{arith}
use Rattle.std.proofs.lemmas.Grind.{common_steps}
use Rattle.hsp_network.proofs.accept.has_bounded_prices.Goals as goal

pub returns-then-are_low-2 : goal.returns-then-are_low-2
returns-then-are_low-2 c = grind (arith, common_steps)
