use Rattle.hsp_prices.proofs.Shown.{plan_is_shown}
use Rattle.hsp_prices.proofs.laws.plan_is_shown.Goals as goal

pub returns : goal.returns
returns c = plan_is_shown
