use Rattle.std.proofs.Common.{◌≡◌, ◌∙◌, arith, subst, sym}
use Rattle.hsp_inputs.specs.declared.stream_fault.StreamFault.{StreamFault}
use Rattle.hsp_price_runs.specs.Taken.{IsTakenFault}
use Rattle.hsp_price_runs.proofs.Planned.{plan_stops, too_much}
use Rattle.hsp_price_runs.proofs.plan.plan_taken.Goals as goal

pub returns-then-asked-ge-TOO_MANY-clause-fault : goal.returns-then-asked-ge-TOO_MANY-clause-fault
returns-then-asked-ge-TOO_MANY-clause-fault g c =
    too_much c.args.numbers.now c.args.rows.now.rows c.args.asked c.requires.asked (omega arith)

pub returns-in-Err-clause-fault : goal.returns-in-Err-clause-fault
returns-in-Err-clause-fault g c =
    rw c.fault_of_plan.ensures
    (plan_stops c.args.numbers.now c.args.rows.now.rows c.args.asked c.requires.asked c.keep_guessed.new.rows.rows
    c.keep_guessed.ensures (omega arith) c.in-Err.fault c.in-Err.ensures.fault)
