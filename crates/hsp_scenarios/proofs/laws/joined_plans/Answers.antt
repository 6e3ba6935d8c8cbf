use Rattle.hsp_scenarios.proofs.Joining.{joined_plans}
use Rattle.hsp_scenarios.proofs.laws.joined_plans.Goals as goal

pub returns : goal.returns
returns g c = joined_plans _
