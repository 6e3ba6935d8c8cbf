use Rattle.hsp_scenarios.proofs.Nearing.{heavy_weights_show_nearest}
use Rattle.hsp_scenarios.proofs.laws.heavy_weights_show_nearest.Goals as goal

pub returns : goal.returns
returns g c = heavy_weights_show_nearest _
