use Rattle.std.proofs.Common.{◌≡◌, ◌⊎◌, inl, inr, ℕ, List, Option, Ok, Err, ap, refl}
use Rattle.std.proofs.lemmas.Result.{IfErr-weaker, IfOk-weaker, err_from_is_err_and}
use Rattle.hsp_inputs.specs.declared.fault.Fault.{Fault}
use Rattle.hsp_inputs.specs.declared.fault.Fault.TheVariants as input
use Rattle.hsp_inputs.specs.Instance.{IsInstanceOf}
use Rattle.hsp_inputs.specs.declared.inputs.Inputs.{Inputs}
use Rattle.hsp_price_check.specs.Classes.{service_of}
use Rattle.hsp_price_runs.specs.PriceRun.{AnswersRecords, IsReadFrom}
use Rattle.hsp_price_runs.proofs.Judged.{inputs_are, inputs_stop}
use Rattle.hsp_inputs.specs.Faults.{fault_of_input}
use Rattle.hsp_log.specs.LogRows.{OfLog}
use Rattle.hsp_inputs.specs.Stopping.{MayStopReading}
use Rattle.hsp_inputs.specs.declared.stream_fault.StreamFault.{StreamFault}
use Rattle.hsp_inputs.specs.declared.stream_fault.StreamFault.TheVariants.{OutOfMemory}
use Rattle.hsp_log.proofs.LogReading.{log_all, log_more}
use Rattle.hsp_price_runs.specs.PlanRun.{IsPlanBy, IsPlannedLog, IsShownPlan, PlansRecords}
use Rattle.hsp_price_runs.specs.declared.prices_text.PricesText.{PricesText}
use Rattle.hsp_price_runs.proofs.PlanShown.{shown}
use Rattle.hsp_price_runs.proofs.PlannedAlways.{plans}
use Rattle.hsp_price_runs.proofs.plan.price_plan_run.Goals as goal

-- a fault of an input is that of the run
input_stops : (MayFail : Type 0) (log : Option (List ℕ)) (inputs : Inputs) (e : Fault)
    → (e ≡ input.OutOfMemory) ⊎ IsInstanceOf inputs (Err e)
    → MayStopReading MayFail (fault_of_input e) ⊎ OfLog log (IsPlannedLog inputs (Err (fault_of_input e)))
input_stops MayFail log inputs e (inl memory) = inl (inl (ap fault_of_input memory))
input_stops MayFail log inputs e (inr is) =
    inr
    (log_all (IsPlannedLog inputs (Err (fault_of_input e))) log
    (λ records. inputs_stop PlansRecords inputs records e is))

pub returns-in_err-instance-clause-fault : goal.returns-in_err-instance-clause-fault
returns-in_err-instance-clause-fault g c =
    let told = err_from_is_err_and c.from_residual.result c.from_residual.ensures.1 in
    rw (told.1, told.2)
    (input_stops (g.R.Source.may_read_fail c.args.log) (g.R.Read.remaining c.args.log) c.args.inputs.now
    c.in_err-instance.field-0.0 c.in_err-instance.ensures.instance)

pub returns-in_err-instance-clause-always : goal.returns-in_err-instance-clause-always
returns-in_err-instance-clause-always g c =
    let told = err_from_is_err_and c.from_residual.result c.from_residual.ensures.1 in
    let MayFail = g.R.Source.may_read_fail c.args.log in
    let log = g.R.Read.remaining c.args.log in
    let inputs = c.args.inputs.now in
    let e = c.in_err-instance.field-0.0 in
    rw (told.1, told.2)
    (plans c.instances_are_defined.ensures.only inputs MayFail log (Err (fault_of_input e)) tt
    (input_stops MayFail log inputs e c.in_err-instance.ensures.instance))

pub returns-in-Ok-clause-shows : goal.returns-in-Ok-clause-shows
returns-in-Ok-clause-shows g c =
    let inputs = c.args.inputs.now in
    let log = g.R.Read.remaining c.args.log in
    let it = c.in_ok-instance.instance in
    let costs = c.in-Ok.costs in
    let read : IsReadFrom inputs it = record {
      is = c.in_ok-instance.ensures.instance;
      within = c.rows-rows.ensures.within;
      defines = c.in_ok-instance.ensures.defines;
    } in
    IfOk-weaker c.plan_log.result
    (λ (text : PricesText). OfLog log (AnswersRecords (IsPlanBy (service_of costs it)) (Ok text)))
    (λ (text : PricesText). OfLog log (IsShownPlan inputs text))
    (λ text.
    log_more (AnswersRecords (IsPlanBy (service_of costs it)) (Ok text)) (IsShownPlan inputs text) log
    (λ records planned.
    shown c.plan_is_shown.ensures c.shortage_is_shown.ensures inputs it read costs
    (rw (c.limits.ensures, c.deref.ensures.value) at c.in-Ok.ensures) records text planned)) c.plan_log.ensures.text

pub returns-in-Ok-clause-fault : goal.returns-in-Ok-clause-fault
returns-in-Ok-clause-fault g c =
    let inputs = c.args.inputs.now in
    let log = g.R.Read.remaining c.args.log in
    let it = c.in_ok-instance.instance in
    let costs = c.in-Ok.costs in
    IfErr-weaker c.plan_log.result
    (λ (fault : StreamFault). MayStopReading (g.R.Source.may_read_fail c.args.log) fault
    ⊎ OfLog log (AnswersRecords (IsPlanBy (service_of costs it)) (Err fault)))
    (λ (fault : StreamFault). MayStopReading (g.R.Source.may_read_fail c.args.log) fault ⊎ OfLog log
    (IsPlannedLog inputs (Err fault)))
    (λ fault told. elim told [
      | inl read ↦ inl read
      | inr known ↦
          inr
          (log_more (AnswersRecords (IsPlanBy (service_of costs it)) (Err fault)) (IsPlannedLog inputs (Err fault)) log
          (λ records is.
          inputs_are PlansRecords inputs records it (Err fault) c.in_ok-instance.ensures.instance
          (costs, rw (c.limits.ensures, c.deref.ensures.value) at c.in-Ok.ensures, is)) known)
    ]) c.plan_log.ensures.fault

pub returns-in-Ok-clause-always : goal.returns-in-Ok-clause-always
returns-in-Ok-clause-always g c =
    plans c.instances_are_defined.ensures.only c.args.inputs.now (g.R.Source.may_read_fail c.args.log)
    (g.R.Read.remaining c.args.log) c.plan_log.result (returns-in-Ok-clause-shows g c) (returns-in-Ok-clause-fault g c)

pub returns-in-Err-clause-always : goal.returns-in-Err-clause-always
returns-in-Err-clause-always g c =
    plans c.instances_are_defined.ensures.only c.args.inputs.now (g.R.Source.may_read_fail c.args.log)
    (g.R.Read.remaining c.args.log) (Err OutOfMemory) tt (inl (inl refl))
