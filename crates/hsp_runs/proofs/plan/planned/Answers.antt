use Rattle.std.proofs.Common.{ap}
use Rattle.hsp_check.specs.Instance.{network_of}
use Rattle.hsp_runs.specs.Plan.{Printed}
use Rattle.hsp_runs.proofs.Showing.{shown_holds}
use Rattle.hsp_runs.proofs.plan.planned.Goals as goal

pub returns-clause-shows : goal.returns-clause-shows
returns-clause-shows c =
    let claim = c.in_ok-certificate.certificate in
    let shown = c.in_ok-certificate.ensures in
    let holds = shown_holds (network_of c.args.instance.now) claim shown.valid shown.best shown.prices shown.none in
    let text = ap (λ (t : Printed). t.octets) c.in_ok-text_of.ensures.text in
    (claim, record { is = c.in_ok-text_of.ensures.ranges; text = text; holds = holds })
