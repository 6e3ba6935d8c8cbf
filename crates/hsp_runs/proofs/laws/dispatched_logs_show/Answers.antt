use Rattle.hsp_runs.proofs.ShownFronts.{fronts_logs_show}
use Rattle.hsp_runs.proofs.ShownLog as lemmas
use Rattle.hsp_runs.proofs.laws.dispatched_logs_show.Goals as goal

pub returns : goal.returns
returns c =
    let handles = c.readings_are_handles.ensures in
    record { logs = lemmas.dispatched_logs_show handles; fronts = fronts_logs_show handles }
