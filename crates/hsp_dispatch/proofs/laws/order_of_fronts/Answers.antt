use Rattle.hsp_dispatch.proofs.FrontLaws as lemmas
use Rattle.hsp_dispatch.proofs.laws.order_of_fronts.Goals as goal

pub returns : goal.returns
returns c = lemmas.in_the_same
