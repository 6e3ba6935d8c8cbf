use Rattle.hsp_price_dispatch.proofs.Fronts as lemmas
use Rattle.hsp_price_dispatch.proofs.laws.front_apart.Goals as goal

pub returns : goal.returns
returns c = lemmas.by_its_entries
