use Rattle.hsp_price_dispatch.proofs.Planned as lemmas
use Rattle.hsp_price_dispatch.proofs.laws.served_by_plan.Goals as goal

pub returns : goal.returns
returns c = lemmas.served_by_plan
