use Rattle.std.proofs.Common.{refl}
use Rattle.hsp_runs.specs.Always.{AcceptsClaim}
use Rattle.hsp_runs.proofs.Always.{handed}
use Rattle.hsp_runs.proofs.accepted.accepting.Goals as goal

pub returns-in_err-judged-clause-always : goal.returns-in_err-judged-clause-always
returns-in_err-judged-clause-always c =
    λ holds. handed (AcceptsClaim c.args.certificate) refl _ _ c.from_residual.ensures.1
    (c.in_err-judged.ensures.always holds)

pub returns-in-No-clause-always : goal.returns-in-No-clause-always
returns-in-No-clause-always c = λ holds.
    let yes = c.in_ok-judged.ensures.always holds in
    let no = c.in-No.is in
    cc (yes, no)
