use Rattle.std.proofs.Common.{◌≡◌, ◌∙◌, ap, subst, sym}
use Rattle.hsp_price_check.specs.Classes.{service_of}
use Rattle.hsp_price_answers.specs.AnswerRun.{run_of}
use Rattle.hsp_price_answers.specs.AnswersShown.{IsOfTalk}
use Rattle.hsp_inputs.specs.Faults.{fault_of_input}
use Rattle.hsp_inputs.proofs.PageCosts.{costs_of_page}
use Rattle.hsp_price_answers.proofs.Always.{text_always}
use Rattle.hsp_price_answers.proofs.PricesShown.{by_text}
use Rattle.hsp_price_answers.proofs.run.answer_inputs.Goals as goal

pub returns-in-Err-clause-always : goal.returns-in-Err-clause-always
returns-in-Err-clause-always g c = λ it plan page is text fits.
    let memory = c.in-Err.ensures.always it page in
    subst IsOfTalk (sym (c.from.ensures ∙ ap fault_of_input memory)) tt

pub returns-in-Ok-costs_in-clause-shows : goal.returns-in-Ok-costs_in-clause-shows
returns-in-Ok-costs_in-clause-shows g c =
    by_text c.args.front c.requires c.args.inputs.now c.args.prices.now
    (run_of (g.P.Peer.known c.args.peer.now) (g.P.Peer.known c.answer_text.new.peer) c.answer_text.result)
    c.in-Ok.instance c.in-Ok-costs_in.costs c.in-Ok.ensures.defines
    (rw (c.limits.ensures, c.deref.ensures.value) at c.in-Ok-costs_in.ensures) c.answer_text.ensures.answered

pub returns-in-Ok-costs_in-clause-always : goal.returns-in-Ok-costs_in-clause-always
returns-in-Ok-costs_in-clause-always g c = λ it plan page is text fits.
    let own = c.in-Ok.instance in
    let costs = c.in-Ok-costs_in.costs in
    let same : own ≡ it = c.in-Ok.ensures.always it page in
    let read = rw (c.limits.ensures, c.deref.ensures.value) at c.in-Ok-costs_in.ensures in
    let fitting = fits costs (costs_of_page c.args.inputs.now it costs page read) in
    text_always c.args.front own (service_of costs own) c.args.prices.now
    (run_of (g.P.Peer.known c.args.peer.now) (g.P.Peer.known c.answer_text.new.peer) c.answer_text.result) plan
    (rw same fitting) is text c.answer_text.ensures.answered
