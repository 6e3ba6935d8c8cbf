use Rattle.hsp_prices.proofs.GroupsBest.{groups_show_best}
use Rattle.hsp_prices.proofs.laws.groups_show_best.Goals as goal

pub returns : goal.returns
returns c = groups_show_best
