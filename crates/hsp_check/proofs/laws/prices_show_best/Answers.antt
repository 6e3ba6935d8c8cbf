use Rattle.hsp_check.proofs.Duality.{prices_show_best}
use Rattle.hsp_check.proofs.laws.prices_show_best.Goals as goal

pub returns : goal.returns
returns c = prices_show_best
