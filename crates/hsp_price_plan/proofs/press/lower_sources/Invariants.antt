use Rattle.hsp_network.specs.Problem.{problem_of}
use Rattle.hsp_price_plan.specs.Pressing.{AreLowered}
use Rattle.hsp_price_plan.proofs.press.lower_sources.Given as goal

abbrev pub invariant-loop-arc : goal.invariant-loop-arc
invariant-loop-arc l = AreLowered (problem_of l.network) l.arc l.sums l.fn.prices l.prices
