use Rattle.std.proofs.Common.{inr}
use Rattle.hsp_dispatch.specs.Shares.{left_of}
use Rattle.hsp_runs.proofs.Dispatching.{answered, none_before}
use Rattle.hsp_runs.proofs.dispatch.dispatched.Goals as goal

pub returns-clause-answers : goal.returns-clause-answers
returns-clause-answers g c =
    inr
    (answered _ _ c.in_ok-_plan._plan (left_of c.in_ok-dispatcher.dispatcher) (left_of c.run_log.new.dispatcher) _
    c.run_log.result c.map_err.result
    c.in_ok-_plan.ensures c.in_ok-dispatcher.ensures.plan c.map_err.ensures.cases
    (rw c.in_ok-dispatcher.ensures.instance at c.run_log.ensures.whole)
    (rw c.in_ok-dispatcher.ensures.instance at c.run_log.ensures.stops))

pub returns-clause-untouched : goal.returns-clause-untouched
returns-clause-untouched g c = none_before _ c.run_log.result c.map_err.result c.map_err.ensures.cases
