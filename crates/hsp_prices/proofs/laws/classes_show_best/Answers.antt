use Rattle.hsp_prices.proofs.Spread.{classes_show_best}
use Rattle.hsp_prices.proofs.laws.classes_show_best.Goals as goal

pub returns : goal.returns
returns c = classes_show_best
