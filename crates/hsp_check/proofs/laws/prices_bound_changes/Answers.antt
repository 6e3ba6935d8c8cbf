use Rattle.hsp_check.proofs.Changes.{prices_bound_changes}
use Rattle.hsp_check.proofs.laws.prices_bound_changes.Goals as goal

pub returns : goal.returns
returns c = prices_bound_changes
