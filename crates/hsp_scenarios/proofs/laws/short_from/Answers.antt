use Rattle.hsp_scenarios.proofs.Counting.{short_from}
use Rattle.hsp_scenarios.proofs.laws.short_from.Goals as goal

pub returns : goal.returns
returns g c = short_from _
