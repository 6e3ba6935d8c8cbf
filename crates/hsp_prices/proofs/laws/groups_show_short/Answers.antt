use Rattle.hsp_prices.proofs.ShortShown.{groups_show_short}
use Rattle.hsp_prices.proofs.laws.groups_show_short.Goals as goal

pub returns : goal.returns
returns c = groups_show_short
