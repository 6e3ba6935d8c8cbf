use Rattle.std.proofs.Common.{◌⊎◌, inl, inr, Ok, Err, ap}
use Rattle.std.proofs.lemmas.Result.{IfErr-weaker, IfOk-weaker, err_from_is_err_and}
use Rattle.hsp_price_check.specs.Classes.{service_of}
use Rattle.hsp_inputs.specs.Faults.{fault_of_input}
use Rattle.hsp_log.specs.LogRows.{OfLog}
use Rattle.hsp_inputs.specs.Stopping.{MayStopReading}
use Rattle.hsp_inputs.specs.declared.stream_fault.StreamFault.{StreamFault}
use Rattle.hsp_log.proofs.LogReading.{log_all, log_more}
use Rattle.hsp_price_runs.specs.PriceRun.{AnswersByPrices, AnswersInputs, AnswersRead, AnswersText, IsReadFrom}
use Rattle.hsp_price_runs.proofs.Judged.{inputs_are, inputs_stop}
use Rattle.hsp_price_runs.proofs.run.ask_inputs.Goals as goal

pub returns-in_err-instance-clause-fault : goal.returns-in_err-instance-clause-fault
returns-in_err-instance-clause-fault g c =
    let Is = g.A.Asked.Is c.args.asked.now in
    let inputs = c.args.inputs.now in
    let octets = c.args.prices.now in
    let e = c.in_err-instance.field-0.0 in
    let told = err_from_is_err_and c.from_residual.result c.from_residual.ensures.1 in
    rw (told.1, told.2) (elim c.in_err-instance.ensures.instance [
      | inl memory ↦ inl (inl (ap fault_of_input memory))
      | inr is ↦
          inr
          (log_all (AnswersInputs Is inputs octets (Err (fault_of_input e))) (g.R.Read.remaining c.args.log)
          (λ records. inputs_stop (AnswersByPrices Is octets) inputs records e is))
    ])

pub returns-in-Ok-clause-answer : goal.returns-in-Ok-clause-answer
returns-in-Ok-clause-answer g c =
    let Is = g.A.Asked.Is c.args.asked.now in
    let inputs = c.args.inputs.now in
    let octets = c.args.prices.now in
    let log = g.R.Read.remaining c.args.log in
    let it = c.in_ok-instance.instance in
    let costs = c.in-Ok.costs in
    let read : IsReadFrom inputs it = record {
      is = c.in_ok-instance.ensures.instance;
      within = c.rows-rows.ensures.within;
      defines = c.in_ok-instance.ensures.defines;
    } in
    IfOk-weaker c.ask_text.result (λ answer. OfLog log (AnswersText (Is it (service_of costs it)) octets (Ok answer)))
    (λ answer. OfLog log (AnswersRead Is inputs octets (Ok answer)))
    (λ answer.
    log_more (AnswersText (Is it (service_of costs it)) octets (Ok answer))
    (AnswersRead Is inputs octets (Ok answer)) log
    (λ records is. (it, read, (costs, rw (c.limits.ensures, c.deref.ensures.value) at c.in-Ok.ensures, is))))
    c.ask_text.ensures.answer

pub returns-in-Ok-clause-fault : goal.returns-in-Ok-clause-fault
returns-in-Ok-clause-fault g c =
    let Is = g.A.Asked.Is c.args.asked.now in
    let inputs = c.args.inputs.now in
    let octets = c.args.prices.now in
    let log = g.R.Read.remaining c.args.log in
    let it = c.in_ok-instance.instance in
    let costs = c.in-Ok.costs in
    IfErr-weaker c.ask_text.result
    (λ (fault : StreamFault). MayStopReading (g.R.Source.may_read_fail c.args.log) fault
    ⊎ OfLog log (AnswersText (Is it (service_of costs it)) octets (Err fault)))
    (λ (fault : StreamFault). MayStopReading (g.R.Source.may_read_fail c.args.log) fault ⊎ OfLog log
    (AnswersInputs Is inputs octets (Err fault)))
    (λ fault told. elim told [
      | inl read ↦ inl read
      | inr known ↦
          inr
          (log_more (AnswersText (Is it (service_of costs it)) octets (Err fault))
          (AnswersInputs Is inputs octets (Err fault)) log
          (λ records is.
          inputs_are (AnswersByPrices Is octets) inputs records it (Err fault) c.in_ok-instance.ensures.instance
          (costs, rw (c.limits.ensures, c.deref.ensures.value) at c.in-Ok.ensures, is)) known)
    ]) c.ask_text.ensures.fault
