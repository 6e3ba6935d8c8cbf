use Rattle.hsp_prices.proofs.Short.{shortage_is_shown}
use Rattle.hsp_prices.proofs.laws.shortage_is_shown.Goals as goal

pub returns : goal.returns
returns c = shortage_is_shown
