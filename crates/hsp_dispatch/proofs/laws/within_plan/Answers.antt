use Rattle.hsp_dispatch.proofs.Dispatching as lemmas
use Rattle.hsp_dispatch.proofs.WholeRows.{is_served_whole}
use Rattle.hsp_dispatch.proofs.laws.within_plan.Goals as goal

pub returns-clause-exceeds : goal.returns-clause-exceeds
returns-clause-exceeds c = lemmas.never_exceeds

pub returns-clause-spent : goal.returns-clause-spent
returns-clause-spent c = lemmas.is_spent_after_all

pub returns-clause-whole : goal.returns-clause-whole
returns-clause-whole c = is_served_whole
