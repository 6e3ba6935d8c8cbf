use Rattle.hsp_dispatch.proofs.ByHash as lemmas
use Rattle.hsp_dispatch.proofs.laws.goes_by_hash.Goals as goal

pub returns : goal.returns
returns c = lemmas.goes_by_hash
