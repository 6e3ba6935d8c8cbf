use Rattle.hsp_runs.proofs.ByHash as lemmas
use Rattle.hsp_runs.proofs.laws.logs_go_by_hash.Goals as goal

pub returns : goal.returns
returns c = lemmas.logs_go_by_hash
