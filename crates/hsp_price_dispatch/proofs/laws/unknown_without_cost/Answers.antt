use Rattle.hsp_price_dispatch.proofs.Arcs as lemmas
use Rattle.hsp_price_dispatch.proofs.laws.unknown_without_cost.Goals as goal

pub returns : goal.returns
returns c = lemmas.unknown_without_cost
