use Rattle.hsp_scenarios.proofs.Buying.{sets_show_least}
use Rattle.hsp_scenarios.proofs.laws.sets_show_least.Goals as goal

pub returns : goal.returns
returns g c = sets_show_least _
