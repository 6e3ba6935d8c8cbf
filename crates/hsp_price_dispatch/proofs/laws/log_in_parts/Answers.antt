use Rattle.hsp_price_dispatch.proofs.Fronts as lemmas
use Rattle.hsp_price_dispatch.proofs.laws.log_in_parts.Goals as goal

pub returns : goal.returns
returns c = lemmas.goes_on_with_the_rest
