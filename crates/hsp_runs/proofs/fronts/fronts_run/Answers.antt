use Rattle.std.proofs.Common.{inl, refl}
use Rattle.hsp_cert.specs.Certificate.Claim.{best}
use Rattle.hsp_runs.specs.Logs.{IsOkUnlessLog}
use Rattle.hsp_runs.proofs.Always.{dispatched_at_always, handed, no_fault}
use Rattle.hsp_runs.proofs.ShownFronts.{fronts_shown_where}
use Rattle.hsp_runs.proofs.ShownLog.{shown_nothing}
use Rattle.hsp_runs.proofs.fronts.fronts_run.Goals as goal

pub returns-in_err-accepted-clause-shows : goal.returns-in_err-accepted-clause-shows
returns-in_err-accepted-clause-shows g c =
    inl
    (shown_nothing c.args.inputs.now c.args.certificate.now _ c.in_err-accepted.field-0.0 _ refl
    c.from_residual-in_err-accepted.ensures.1
    c.in_err-accepted.ensures.accepted)

pub returns-clause-shows : goal.returns-clause-shows
returns-clause-shows g c =
    let accepted = c.in_ok-accepted.accepted in
    let is = c.in_ok-accepted.ensures in
    fronts_shown_where c.args.fronts.now c.args.inputs.now c.args.certificate.now c.in_ok-fronts.fronts accepted _
    c.dispatched_at.result c.in_ok-fronts.ensures.given
    is.accepted is.defines is.holds c.dispatched_at.ensures.answers

pub returns-in_err-fronts-clause-always : goal.returns-in_err-fronts-clause-always
returns-in_err-fronts-clause-always g c = λ fronts spelled some few it plan page spells.
    no_fault c.args.fronts.now fronts c.in_err-fronts.field-0.0 spelled some few c.in_err-fronts.ensures.given

pub returns-in_err-accepted-clause-always : goal.returns-in_err-accepted-clause-always
returns-in_err-accepted-clause-always g c = λ fronts spelled some few it plan page spells.
    handed IsOkUnlessLog (inl refl) _ _ c.from_residual-in_err-accepted.ensures.1
    (c.in_err-accepted.ensures.always it (best plan) page spells)

pub returns-clause-always : goal.returns-clause-always
returns-clause-always g c = λ fronts spelled some few it plan page spells.
    dispatched_at_always c.in_ok-fronts.fronts _ c.dispatched_at.result c.in_ok-accepted.accepted plan
    (c.in_ok-accepted.ensures.always it (best plan) page spells) c.dispatched_at.ensures.answers
