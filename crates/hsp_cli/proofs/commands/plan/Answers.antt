use Rattle.std.proofs.Common.{inr}
use Rattle.hsp_cli.proofs.commands.plan.Goals as goal

pub returns : goal.returns
returns g c = inr (c.in_ok-inputs.inputs, c.in_ok-inputs.ensures.held, c.plan_answer.ensures)
