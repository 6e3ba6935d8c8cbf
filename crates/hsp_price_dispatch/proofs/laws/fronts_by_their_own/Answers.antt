use Rattle.hsp_price_dispatch.proofs.Fronts as lemmas
use Rattle.hsp_price_dispatch.proofs.laws.fronts_by_their_own.Goals as goal

pub returns : goal.returns
returns c = lemmas.answers_alone
