use Rattle.std.proofs.Common.{◌⊎◌, inl, inr, List, Ok, Err, ◌≡◌}
use Rattle.std.proofs.lemmas.Result.{IfErr-weaker, IfOk-weaker}
use Rattle.hsp_tables.specs.Costs.{CostEntry}
use Rattle.hsp_instance.specs.Instance.{Row}
use Rattle.hsp_price_check.specs.Checking.{IsPassed}
use Rattle.hsp_price_check.specs.Classes.{service_of}
use Rattle.hsp_log.specs.LogRows.{OfLog}
use Rattle.hsp_inputs.specs.Stopping.{MayStopReading}
use Rattle.hsp_inputs.specs.declared.stream_fault.StreamFault.{StreamFault}
use Rattle.hsp_inputs.specs.declared.stream_fault.StreamFault.TheVariants.{OutOfMemory}
use Rattle.hsp_price_runs.specs.PriceRun.{AnswersRecords}
use Rattle.hsp_price_runs.proofs.Judged.{answered_log, some_rows}
use Rattle.hsp_price_runs.proofs.run.ask_log.Goals as goal

pub answer-requires : goal.answer-requires
answer-requires g c =
    let it = c.args.service.instance.now in
    let costs = c.args.service.costs.now in
    let over =
    some_rows (service_of costs it) c.args.certificate.now c.in_ok-check.check c.pass_log.new.taker
    c.in_ok-check.ensures (g.R.Read.remaining c.args.log) c.in_ok-pass_log.ensures.passed in (costs, over.0, over.1)

pub returns-clause-answer : goal.returns-clause-answer
returns-clause-answer g c =
    let it = c.args.service.instance.now in
    let costs = c.args.service.costs.now in
    let certificate = c.args.certificate.now in
    let By = g.A.Asked.Is c.args.asked.now it in
    let Is = By (service_of costs it) certificate in
    let log = g.R.Read.remaining c.args.log in
    IfOk-weaker c.answer.result
    (λ answer. (own : List CostEntry) (rows : List Row)
    → IsPassed (service_of own it) certificate rows c.pass_log.new.taker
    → By (service_of own it) certificate rows (Ok answer))
    (λ answer. OfLog log (AnswersRecords Is (Ok answer)))
    (λ answer answers.
    answered_log (service_of costs it) certificate c.in_ok-check.check c.pass_log.new.taker c.in_ok-check.ensures Is log
    (Ok answer) (λ rows passed. answers costs rows passed) c.in_ok-pass_log.ensures.passed) c.answer.ensures.answer

pub returns-clause-fault : goal.returns-clause-fault
returns-clause-fault g c =
    let it = c.args.service.instance.now in
    let costs = c.args.service.costs.now in
    let certificate = c.args.certificate.now in
    let By = g.A.Asked.Is c.args.asked.now it in
    let Is = By (service_of costs it) certificate in
    let log = g.R.Read.remaining c.args.log in
    IfErr-weaker c.answer.result
    (λ (fault : StreamFault). (fault ≡ OutOfMemory)
    ⊎ ((own : List CostEntry) (rows : List Row)
    → IsPassed (service_of own it) certificate rows c.pass_log.new.taker
    → By (service_of own it) certificate rows (Err fault)))
    (λ (fault : StreamFault). MayStopReading (g.R.Source.may_read_fail c.args.log) fault ⊎ OfLog log
    (AnswersRecords Is (Err fault)))
    (λ fault told. elim told [
      | inl memory ↦ inl (inl memory)
      | inr answers ↦
          inr
          (answered_log (service_of costs it) certificate c.in_ok-check.check c.pass_log.new.taker
          c.in_ok-check.ensures Is log (Err fault) (λ rows passed. answers costs rows passed)
          c.in_ok-pass_log.ensures.passed)
    ]) c.answer.ensures.fault
