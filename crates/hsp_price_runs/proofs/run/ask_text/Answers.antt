use Rattle.std.proofs.Common.{◌⊎◌, inl, inr, Ok, Err, ap}
use Rattle.std.proofs.lemmas.Result.{IfErr-weaker, IfOk-weaker, err_from_is_err_and}
use Rattle.hsp_price_check.specs.Classes.{service_of}
use Rattle.hsp_inputs.specs.Faults.{fault_of_input}
use Rattle.hsp_log.specs.LogRows.{OfLog}
use Rattle.hsp_inputs.specs.Stopping.{MayStopReading}
use Rattle.hsp_inputs.specs.declared.stream_fault.StreamFault.{StreamFault}
use Rattle.hsp_log.proofs.LogReading.{log_all, log_more}
use Rattle.hsp_price_runs.specs.PriceRun.{AnswersRecords, AnswersText}
use Rattle.hsp_price_runs.proofs.Judged.{certificate_stops, text_is}
use Rattle.hsp_price_runs.proofs.run.ask_text.Goals as goal

pub returns-in_err-certificate-clause-fault : goal.returns-in_err-certificate-clause-fault
returns-in_err-certificate-clause-fault g c =
    let it = c.args.service.instance.now in
    let Is = g.A.Asked.Is c.args.asked.now it (service_of c.args.service.costs.now it) in
    let octets = c.args.prices.now in
    let e = c.in_err-certificate.field-0.0 in
    let told = err_from_is_err_and c.from_residual.result c.from_residual.ensures.1 in
    rw (told.1, told.2) (elim c.in_err-certificate.ensures [
      | inl memory ↦ inl (inl (ap fault_of_input memory))
      | inr is ↦
          inr
          (log_all (AnswersText Is octets (Err (fault_of_input e))) (g.R.Read.remaining c.args.log)
          (λ records. certificate_stops Is octets records e is))
    ])

pub returns-clause-answer : goal.returns-clause-answer
returns-clause-answer g c =
    let it = c.args.service.instance.now in
    let Is = g.A.Asked.Is c.args.asked.now it (service_of c.args.service.costs.now it) in
    let octets = c.args.prices.now in
    let log = g.R.Read.remaining c.args.log in
    let certificate = c.in_ok-certificate.certificate in
    IfOk-weaker c.ask_log.result (λ answer. OfLog log (AnswersRecords (Is certificate) (Ok answer)))
    (λ answer. OfLog log (AnswersText Is octets (Ok answer)))
    (λ answer.
    log_more (AnswersRecords (Is certificate) (Ok answer)) (AnswersText Is octets (Ok answer)) log
    (λ records is. text_is Is octets records certificate (Ok answer) c.in_ok-certificate.ensures is))
    c.ask_log.ensures.answer

pub returns-clause-fault : goal.returns-clause-fault
returns-clause-fault g c =
    let it = c.args.service.instance.now in
    let Is = g.A.Asked.Is c.args.asked.now it (service_of c.args.service.costs.now it) in
    let octets = c.args.prices.now in
    let log = g.R.Read.remaining c.args.log in
    let certificate = c.in_ok-certificate.certificate in
    IfErr-weaker c.ask_log.result
    (λ (fault : StreamFault). MayStopReading (g.R.Source.may_read_fail c.args.log) fault ⊎ OfLog log
    (AnswersRecords (Is certificate) (Err fault)))
    (λ (fault : StreamFault). MayStopReading (g.R.Source.may_read_fail c.args.log) fault ⊎ OfLog log
    (AnswersText Is octets (Err fault)))
    (λ fault told. elim told [
      | inl read ↦ inl read
      | inr known ↦
          inr
          (log_more (AnswersRecords (Is certificate) (Err fault)) (AnswersText Is octets (Err fault)) log
          (λ records is. text_is Is octets records certificate (Err fault) c.in_ok-certificate.ensures is) known)
    ]) c.ask_log.ensures.fault
