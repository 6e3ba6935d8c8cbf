use Rattle.std.proofs.Common.{◌≡◌, Ok, subst}
use Rattle.std.proofs.lemmas.Result.{IfOk-weaker}
use Rattle.hsp_prices.specs.declared.verdict.PriceVerdict.{PriceVerdict}
use Rattle.hsp_prices.specs.declared.verdict.PriceVerdict.TheVariants.{Yes}
use Rattle.hsp_log.specs.LogRows.{OfLog}
use Rattle.hsp_log.proofs.LogReading.{log_more}
use Rattle.hsp_price_runs.specs.PriceRun.{AnswersByPrices, AnswersRead, IsPriceVerdict, IsVerdictBy}
use Rattle.hsp_price_runs.specs.PricesShown.{ShowsLog}
use Rattle.hsp_price_runs.proofs.Judged.{read_is}
use Rattle.hsp_price_runs.proofs.Known.{says_yes}
use Rattle.hsp_price_runs.proofs.Shown.{yes_shows}
use Rattle.hsp_price_runs.proofs.run.price_check_run.Goals as goal

pub returns-clause-verdict : goal.returns-clause-verdict
returns-clause-verdict g c =
    let inputs = c.args.inputs.now in
    let octets = c.args.prices.now in
    let log = g.R.Read.remaining c.args.log in
    IfOk-weaker c.ask_inputs.result
    (λ (verdict : PriceVerdict). OfLog log (AnswersRead (λ it. IsVerdictBy) inputs octets (Ok verdict)))
    (λ (verdict : PriceVerdict). OfLog log (λ records. IsPriceVerdict inputs octets records (Ok verdict)))
    (λ verdict.
    log_more (AnswersRead (λ it. IsVerdictBy) inputs octets (Ok verdict))
    (λ records. IsPriceVerdict inputs octets records (Ok verdict)) log
    (λ records is. read_is (AnswersByPrices (λ it. IsVerdictBy) octets) inputs records (Ok verdict) is))
    c.ask_inputs.ensures.answer

pub returns-clause-shows : goal.returns-clause-shows
returns-clause-shows g c =
    let inputs = c.args.inputs.now in
    let octets = c.args.prices.now in
    let log = g.R.Read.remaining c.args.log in
    IfOk-weaker c.ask_inputs.result
    (λ (verdict : PriceVerdict). OfLog log (AnswersRead (λ it. IsVerdictBy) inputs octets (Ok verdict)))
    (λ (verdict : PriceVerdict). verdict ≡ Yes → OfLog log (ShowsLog inputs octets))
    (λ verdict is yes.
    log_more (AnswersRead (λ it. IsVerdictBy) inputs octets (Ok verdict)) (ShowsLog inputs octets) log
    (λ records judged.
    yes_shows c.plan_is_shown.ensures c.shortage_is_shown.ensures inputs octets records
    (subst (λ (w : PriceVerdict). AnswersRead (λ it. IsVerdictBy) inputs octets (Ok w) records) yes judged)) is)
    c.ask_inputs.ensures.answer

pub returns-clause-exactly : goal.returns-clause-exactly
returns-clause-exactly g c =
    says_yes c.instances_are_defined.ensures.only c.one_answer.ensures c.args.inputs.now c.args.prices.now
    (g.R.Source.may_read_fail c.args.log) (g.R.Read.remaining c.args.log) c.ask_inputs.result
    (returns-clause-verdict g c) c.ask_inputs.ensures.fault
