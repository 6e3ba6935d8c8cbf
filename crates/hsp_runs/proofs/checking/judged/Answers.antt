use Rattle.hsp_check.specs.Instance.{network_of}
use Rattle.hsp_runs.proofs.Showing.{holds_valid, shown_holds}
use Rattle.hsp_runs.proofs.checking.judged.Goals as goal

pub returns-clause-holds : goal.returns-clause-holds
returns-clause-holds c = λ yes.
    let shown = c.in_ok-check.ensures in
    shown_holds (network_of c.args.instance.now) c.args.certificate.now (shown.valid.0 yes) (shown.best yes)
    (shown.prices yes) (shown.none yes)

pub returns-clause-always : goal.returns-clause-always
returns-clause-always c =
    λ holds. c.in_ok-check.ensures.valid.1 (holds_valid (network_of c.args.instance.now) c.args.certificate.now holds)
