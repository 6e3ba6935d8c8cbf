use Rattle.hsp_scenarios.proofs.Splitting.{split_plans}
use Rattle.hsp_scenarios.proofs.laws.split_plans.Goals as goal

pub returns : goal.returns
returns g c = split_plans _
