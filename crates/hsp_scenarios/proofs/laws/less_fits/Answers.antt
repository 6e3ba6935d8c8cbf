use Rattle.hsp_scenarios.proofs.Counting.{less_fits}
use Rattle.hsp_scenarios.proofs.laws.less_fits.Goals as goal

pub returns : goal.returns
returns g c = less_fits _
