use Rattle.std.proofs.Common.{inr}
use Rattle.hsp_stream_cli.proofs.FailedReads.{prints_weaker}
use Rattle.hsp_stream_cli.proofs.planning.plan_log.Goals as goal

pub returns-clause-plans : goal.returns-clause-plans
returns-clause-plans g c =
    inr (
      c.in_ok-inputs.inputs,
      _,
      c.in_ok-inputs.ensures.held,
      c.in_ok-log.ensures.held,
      prints_weaker _ _ _ _ _ _ c.in_ok-log.ensures.reads c.print_plan.ensures.prints,
    )
