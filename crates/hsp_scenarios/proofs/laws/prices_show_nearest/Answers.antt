use Rattle.hsp_scenarios.proofs.Nearing.{prices_show_nearest}
use Rattle.hsp_scenarios.proofs.laws.prices_show_nearest.Goals as goal

pub returns : goal.returns
returns g c = prices_show_nearest _
