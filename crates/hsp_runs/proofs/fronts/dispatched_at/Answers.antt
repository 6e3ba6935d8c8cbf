use Rattle.std.proofs.Common.{inr}
use Rattle.hsp_runs.proofs.Dispatching.{answered_at, none_before}
use Rattle.hsp_runs.proofs.fronts.dispatched_at.Goals as goal

pub returns-clause-answers : goal.returns-clause-answers
returns-clause-answers g c =
    inr
    (answered_at _ _ c.in_ok-_plan._plan _ c.in_ok-all.all c.run_fronts.new.fronts _ c.run_fronts.result
    c.map_err.result
    c.in_ok-_plan.ensures c.in_ok-all.ensures c.map_err.ensures.cases c.run_fronts.ensures.whole
    c.run_fronts.ensures.stops)

pub returns-clause-untouched : goal.returns-clause-untouched
returns-clause-untouched g c = none_before _ c.run_fronts.result c.map_err.result c.map_err.ensures.cases
