use Rattle.hsp_price_dispatch.proofs.Planned.{served_by_plan}
use Rattle.hsp_price_answers.specs.Asking.{queries_in}
use Rattle.hsp_price_answers.proofs.laws.served_in_log.Goals as goal

pub returns : goal.returns
returns c = λ at plan own asked. served_by_plan at plan own (queries_in asked)
