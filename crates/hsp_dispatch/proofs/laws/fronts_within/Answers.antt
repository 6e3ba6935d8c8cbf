use Rattle.hsp_dispatch.proofs.FrontLaws as lemmas
use Rattle.hsp_dispatch.proofs.laws.fronts_within.Goals as goal

pub returns : goal.returns
returns c = lemmas.never_exceeds_together
