use Rattle.std.proofs.Common.{inl, refl}
use Rattle.hsp_cert.specs.Certificate.Claim.{best}
use Rattle.hsp_runs.specs.Logs.{IsOkUnlessLog}
use Rattle.hsp_runs.proofs.Always.{dispatched_always, handed}
use Rattle.hsp_runs.proofs.ShownLog.{shown_nothing, shown_where}
use Rattle.hsp_runs.proofs.dispatch.dispatch_run.Goals as goal

pub returns-in_err-accepted-clause-shows : goal.returns-in_err-accepted-clause-shows
returns-in_err-accepted-clause-shows g c =
    inl
    (shown_nothing c.args.inputs.now c.args.certificate.now _ c.in_err-accepted.field-0.0 _ refl
    c.from_residual.ensures.1 c.in_err-accepted.ensures.accepted)

pub returns-clause-shows : goal.returns-clause-shows
returns-clause-shows g c =
    let accepted = c.in_ok-accepted.accepted in
    let is = c.in_ok-accepted.ensures in
    shown_where c.args.inputs.now c.args.certificate.now accepted _ c.dispatched.result is.accepted is.defines is.holds
    c.dispatched.ensures.answers

pub returns-in_err-accepted-clause-always : goal.returns-in_err-accepted-clause-always
returns-in_err-accepted-clause-always g c = λ it plan page spells.
    handed IsOkUnlessLog (inl refl) _ _ c.from_residual.ensures.1
    (c.in_err-accepted.ensures.always it (best plan) page spells)

pub returns-clause-always : goal.returns-clause-always
returns-clause-always g c = λ it plan page spells.
    dispatched_always _ c.dispatched.result c.in_ok-accepted.accepted plan
    (c.in_ok-accepted.ensures.always it (best plan) page spells) c.dispatched.ensures.answers
