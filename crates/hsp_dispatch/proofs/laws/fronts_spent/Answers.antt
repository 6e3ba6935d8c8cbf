use Rattle.hsp_dispatch.proofs.FrontLaws.{is_spent_together}
use Rattle.hsp_dispatch.proofs.WholeRows.{is_served_together}
use Rattle.hsp_dispatch.proofs.laws.fronts_spent.Goals as goal

pub returns-clause-spent : goal.returns-clause-spent
returns-clause-spent c = is_spent_together

pub returns-clause-whole : goal.returns-clause-whole
returns-clause-whole c = is_served_together
