use Rattle.hsp_scenarios.proofs.Nearing.{prices_weigh_moves}
use Rattle.hsp_scenarios.proofs.laws.prices_weigh_moves.Goals as goal

pub returns : goal.returns
returns g c = prices_weigh_moves _
