use Rattle.std.proofs.Common.{◌≡◌, ◌⊎◌, ◌<◌, inl, inr, List, Ok, Err, length}
use Rattle.std.proofs.lemmas.Result.{IfErr-weaker, IfOk-weaker, err_from_is_err_and}
use Rattle.hsp_csv.specs.Records.{Fields}
use Rattle.hsp_text.specs.declared.limits.TheConstants.{LARGEST_FILE}
use Rattle.hsp_price_check.specs.Classes.{service_of}
use Rattle.hsp_price_runs.specs.LogRows.{log_rows}
use Rattle.hsp_price_runs.specs.Passing.{TakesRows}
use Rattle.hsp_price_runs.specs.PriceRun.{AnswersRecords}
use Rattle.hsp_price_text.specs.Certificate.{IsCertificate}
use Rattle.hsp_price_text.specs.Text.{text_of}
use Rattle.hsp_log.specs.LogRows.{OfLog}
use Rattle.hsp_inputs.specs.Stopping.{MayStopReading}
use Rattle.hsp_inputs.specs.declared.stream_fault.StreamFault.{StreamFault}
use Rattle.hsp_inputs.specs.declared.stream_fault.StreamFault.TheVariants.{OutOfMemory, TooLarge}
use Rattle.hsp_log.proofs.LogReading.{log_more}
use Rattle.hsp_price_runs.specs.Holding.{HasHeld}
use Rattle.hsp_price_runs.specs.PlanRun.{IsPlanBy}
use Rattle.hsp_price_runs.specs.PricesText.{IsTextOf}
use Rattle.hsp_price_runs.specs.declared.prices_text.PricesText.{PricesText}
use Rattle.hsp_price_runs.proofs.Planned.{are_numbers, rows_stop, some_held, some_taken, text_given, text_long}
use Rattle.hsp_price_runs.proofs.plan.plan_log.Goals as goal

pub plan_taken-requires-clause-some : goal.plan_taken-requires-clause-some
plan_taken-requires-clause-some g c =
    let at = service_of c.args.costs.now c.args.instance.now in
    let first = c.new-holder.result in
    let now = c.pass_log.new.taker in
    let fresh = c.new-holder.ensures in
    let numbers = c.in_ok-numbers.numbers in
    let log = g.R.Read.remaining c.args.log in
    let are =
    are_numbers c.args.costs.now c.args.instance.now numbers c.in_ok-numbers.ensures.capacities
    c.in_ok-numbers.ensures.limits c.in_ok-numbers.ensures.server_hosts in
    let passed = c.in_ok-pass_log.ensures.passed in
    let held = some_held at first now fresh numbers are log passed in
    some_taken at first now fresh numbers are held.0 held.1

pub returns-in_err-certificate-clause-fault : goal.returns-in_err-certificate-clause-fault
returns-in_err-certificate-clause-fault g c =
    let told =
    err_from_is_err_and c.from_residual-in_err-certificate.result c.from_residual-in_err-certificate.ensures.1 in
    let at = service_of c.args.costs.now c.args.instance.now in
    let first = c.new-holder.result in
    let now = c.pass_log.new.taker in
    let fresh = c.new-holder.ensures in
    let numbers = c.in_ok-numbers.numbers in
    let log = g.R.Read.remaining c.args.log in
    let are =
    are_numbers c.args.costs.now c.args.instance.now numbers c.in_ok-numbers.ensures.capacities
    c.in_ok-numbers.ensures.limits c.in_ok-numbers.ensures.server_hosts in
    let passed = c.in_ok-pass_log.ensures.passed in
    let e = c.in_err-certificate.field-0.0 in
    rw (told.1, told.2) (elim c.in_err-certificate.ensures.fault [
      | inl memory ↦ inl (inl memory)
      | inr past ↦
          inr
          (rw past.0
          (log_more (λ records. TakesRows HasHeld (log_rows records) first now)
          (AnswersRecords (IsPlanBy at) (Err TooLarge)) log
          (λ records takes. rows_stop at first now fresh numbers are records takes past.1) passed))
    ])

pub returns-clause-text : goal.returns-clause-text
returns-clause-text g c =
    let at = service_of c.args.costs.now c.args.instance.now in
    let first = c.new-holder.result in
    let now = c.pass_log.new.taker in
    let fresh = c.new-holder.ensures in
    let numbers = c.in_ok-numbers.numbers in
    let log = g.R.Read.remaining c.args.log in
    let are =
    are_numbers c.args.costs.now c.args.instance.now numbers c.in_ok-numbers.ensures.capacities
    c.in_ok-numbers.ensures.limits c.in_ok-numbers.ensures.server_hosts in
    let passed = c.in_ok-pass_log.ensures.passed in
    let certificate = c.in_ok-certificate.certificate in
    IfOk-weaker c.text_of.result (IsTextOf certificate)
    (λ (text : PricesText). OfLog log (AnswersRecords (IsPlanBy at) (Ok text)))
    (λ text is.
    log_more (λ records. TakesRows HasHeld (log_rows records) first now)
    (AnswersRecords (IsPlanBy at) (Ok text)) log
    (λ records takes.
    text_given at first now fresh numbers are records takes certificate text c.in_ok-certificate.ensures.valid is)
    passed) c.text_of.ensures.text

pub returns-clause-fault : goal.returns-clause-fault
returns-clause-fault g c =
    let at = service_of c.args.costs.now c.args.instance.now in
    let first = c.new-holder.result in
    let now = c.pass_log.new.taker in
    let fresh = c.new-holder.ensures in
    let numbers = c.in_ok-numbers.numbers in
    let log = g.R.Read.remaining c.args.log in
    let are =
    are_numbers c.args.costs.now c.args.instance.now numbers c.in_ok-numbers.ensures.capacities
    c.in_ok-numbers.ensures.limits c.in_ok-numbers.ensures.server_hosts in
    let passed = c.in_ok-pass_log.ensures.passed in
    let certificate = c.in_ok-certificate.certificate in
    IfErr-weaker c.text_of.result
    (λ (fault : StreamFault). (fault ≡ OutOfMemory)
    ⊎ ((fault ≡ TooLarge) × IsCertificate certificate × (LARGEST_FILE < length (text_of certificate))))
    (λ (fault : StreamFault).
    MayStopReading (g.R.Source.may_read_fail c.args.log) fault ⊎ OfLog log (AnswersRecords (IsPlanBy at) (Err fault)))
    (λ fault told. elim told [
      | inl memory ↦ inl (inl memory)
      | inr long ↦
          inr
          (rw long.0
          (log_more (λ records. TakesRows HasHeld (log_rows records) first now)
          (AnswersRecords (IsPlanBy at) (Err TooLarge)) log
          (λ records takes.
          text_long at first now fresh numbers are records takes certificate c.in_ok-certificate.ensures.valid long.1
          long.2) passed))
    ]) c.text_of.ensures.fault
