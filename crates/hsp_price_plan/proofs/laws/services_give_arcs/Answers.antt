use Rattle.hsp_price_plan.proofs.OwnArcs.{services_give}
use Rattle.hsp_price_plan.proofs.laws.services_give_arcs.Goals as goal

pub returns : goal.returns
returns c = services_give
