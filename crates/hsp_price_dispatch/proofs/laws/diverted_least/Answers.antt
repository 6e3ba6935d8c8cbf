use Rattle.hsp_price_dispatch.proofs.Diverting as lemmas
use Rattle.hsp_price_dispatch.proofs.laws.diverted_least.Goals as goal

pub returns : goal.returns
returns c = lemmas.diverted_least
