use Rattle.std.proofs.Common.{inr}
use Rattle.hsp_cli.proofs.commands.check.Goals as goal

pub returns : goal.returns
returns g c =
    let octets = c.in_ok-plan.plan.items in
    inr (
      c.in_ok-inputs.inputs,
      octets,
      c.in_ok-inputs.ensures.held,
      c.in_ok-plan.ensures.octets,
      rw c.deref.ensures.value at c.check_answer.ensures,
    )
