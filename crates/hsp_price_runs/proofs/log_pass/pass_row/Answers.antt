use Rattle.hsp_log.specs.RowsShown.{row_shown}
use Rattle.hsp_price_runs.proofs.RowsTaken.{taking_stops}
use Rattle.hsp_price_runs.proofs.log_pass.pass_row.Goals as goal

pub returns-in-Err-clause-fault : goal.returns-in-Err-clause-fault
returns-in-Err-clause-fault g c =
    rw c.fault_of_pass.ensures
    (taking_stops g.T.RowTaker.HasTaken c.args.row (row_shown c.args.read) c.args.taker.now c.in-Err.fault
    c.in-Err.ensures.fault)
