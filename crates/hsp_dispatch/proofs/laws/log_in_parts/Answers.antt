use Rattle.hsp_dispatch.proofs.Dispatching as lemmas
use Rattle.hsp_dispatch.proofs.laws.log_in_parts.Goals as goal

pub returns : goal.returns
returns c = lemmas.goes_on
