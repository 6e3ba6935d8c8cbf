use Rattle.hsp_dispatch.proofs.FrontLaws as lemmas
use Rattle.hsp_dispatch.proofs.laws.front_apart.Goals as goal

pub returns : goal.returns
returns c = lemmas.by_its_entries
