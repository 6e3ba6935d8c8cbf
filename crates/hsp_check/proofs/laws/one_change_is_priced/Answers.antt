use Rattle.hsp_check.proofs.Changes.{one_change_is_priced}
use Rattle.hsp_check.proofs.laws.one_change_is_priced.Goals as goal

pub returns : goal.returns
returns c = one_change_is_priced
