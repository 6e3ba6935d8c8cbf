use Rattle.hsp_instance.proofs.OneAnswer.{built_once}
use Rattle.hsp_instance.proofs.laws.built_once.Goals as goal

pub returns : goal.returns
returns c = built_once c.one_answer.ensures.sites
