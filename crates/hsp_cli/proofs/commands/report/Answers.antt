use Rattle.std.proofs.Common.{inr}
use Rattle.hsp_cli.proofs.commands.report.Goals as goal

pub returns : goal.returns
returns g c =
    let octets = c.in_ok-plan.plan.items in
    let answered = rw c.deref.ensures.value at c.report_answer.ensures in
    inr (c.in_ok-inputs.inputs, octets, c.in_ok-inputs.ensures.held, c.in_ok-plan.ensures.octets, answered)
