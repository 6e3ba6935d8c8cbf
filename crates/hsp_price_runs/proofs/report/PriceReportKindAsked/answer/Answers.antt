use Rattle.std.proofs.Common.{inr, refl}
use Rattle.hsp_price_check.specs.Classes.{service_of}
use Rattle.hsp_price_runs.proofs.report.PriceReportKindAsked.answer.Goals as goal

pub returns-in-No-clause-answer : goal.returns-in-No-clause-answer
returns-in-No-clause-answer c = λ costs rows is.
    rw c.in-No.is at (c.in_ok-reason.ensures (service_of costs c.args.instance.now) c.args.certificate.now rows is)

pub text-requires : goal.text-requires
text-requires c =
    let (costs, rows, is) = c.requires in
    let verdict = c.in_ok-reason.ensures (service_of costs c.args.instance.now) c.args.certificate.now rows is in (
      costs,
      rows,
      record {
        passed = rw c.in-Plan.is at is;
        is = c.cost-cost.ensures.within;
        valid = rw (c.in_default.is, c.in-Plan.is) at verdict;
      },
    )

pub returns-in_ok-text-in-Plan-clause-answer : goal.returns-in_ok-text-in-Plan-clause-answer
returns-in_ok-text-in-Plan-clause-answer c = λ costs rows is.
    let verdict = c.in_ok-reason.ensures (service_of costs c.args.instance.now) c.args.certificate.now rows is in
    let valid = rw (c.in_default.is, c.in-Plan.is) at verdict in
    let text =
    c.in_ok-text-in-Plan.ensures costs rows
    (record { passed = rw c.in-Plan.is at is; is = c.cost-cost.ensures.within; valid = valid }) in
    rw c.in-Plan.is (valid, text)

pub returns-in-Shortage-clause-fault : goal.returns-in-Shortage-clause-fault
returns-in-Shortage-clause-fault c = inr (λ costs rows is.
    let verdict = c.in_ok-reason.ensures (service_of costs c.args.instance.now) c.args.certificate.now rows is in
    rw c.in-Shortage.is (rw (c.in_default.is, c.in-Shortage.is) at verdict, refl))
