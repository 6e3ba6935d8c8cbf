use Rattle.hsp_price_dispatch.proofs.Fronts as lemmas
use Rattle.hsp_price_dispatch.proofs.laws.order_of_fronts.Goals as goal

pub returns : goal.returns
returns c = lemmas.in_the_same
