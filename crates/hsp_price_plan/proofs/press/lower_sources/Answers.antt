use Rattle.hsp_network.specs.Problem.{problem_of}
use Rattle.hsp_price_plan.proofs.LoweredPrices.{none_lowered}
use Rattle.hsp_price_plan.proofs.press.lower_sources.Goals as goal

pub loop-arc-init : goal.loop-arc-init
loop-arc-init c = none_lowered (problem_of c.args.network.now) c.args.sums.now c.args.prices.now
