use Rattle.std.proofs.Common.{Ok}
use Rattle.std.proofs.lemmas.Result.{IfOk-weaker}
use Rattle.hsp_log.specs.LogRows.{OfLog}
use Rattle.hsp_log.proofs.LogReading.{log_more}
use Rattle.hsp_price_runs.specs.PriceReport.{IsPriceReport, IsReportBy}
use Rattle.hsp_price_runs.specs.PriceRun.{AnswersByPrices, AnswersRead}
use Rattle.hsp_price_runs.specs.declared.report.PriceReport.{PriceReport}
use Rattle.hsp_price_runs.proofs.Judged.{read_is}
use Rattle.hsp_price_runs.proofs.report.price_report_run.Goals as goal

pub returns-clause-report : goal.returns-clause-report
returns-clause-report g c =
    let Is = IsReportBy c.args.kind in
    let inputs = c.args.inputs.now in
    let octets = c.args.prices.now in
    let log = g.R.Read.remaining c.args.log in
    IfOk-weaker c.ask_inputs.result (λ (report : PriceReport). OfLog log (AnswersRead Is inputs octets (Ok report)))
    (λ (report : PriceReport). OfLog log (λ records. IsPriceReport c.args.kind inputs octets records (Ok report)))
    (λ report.
    log_more (AnswersRead Is inputs octets (Ok report))
    (λ records. IsPriceReport c.args.kind inputs octets records (Ok report)) log
    (λ records is. read_is (AnswersByPrices Is octets) inputs records (Ok report) is)) c.ask_inputs.ensures.answer
