use Rattle.hsp_price_dispatch.proofs.Fronts.{never_exceeds_together}
use Rattle.hsp_price_answers.specs.Asking.{queries_in}
use Rattle.hsp_price_answers.proofs.laws.machines_keep_within.Goals as goal

pub returns : goal.returns
returns c = λ at plan fronts begun asked.
    never_exceeds_together at plan fronts begun (λ front. queries_in (asked front))
