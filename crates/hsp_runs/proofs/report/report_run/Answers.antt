use Rattle.hsp_runs.proofs.Reporting.{stands_then}
use Rattle.hsp_runs.proofs.report.report_run.Goals as goal

pub returns : goal.returns
returns c = stands_then _ _ _ _ _ c.reported.result c.in_ok-accepted.ensures.accepted c.reported.ensures
