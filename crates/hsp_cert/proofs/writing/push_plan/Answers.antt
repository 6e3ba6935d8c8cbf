use Rattle.std.proofs.Common.{ap}
use Rattle.hsp_cert.specs.Certificate.{Best}
use Rattle.hsp_cert.proofs.AppendedLines.{plan_appended}
use Rattle.hsp_cert.proofs.writing.push_plan.Goals as goal

pub returns : goal.returns
returns c =
    plan_appended c.args.plan.now c.args.out.now.items _ _ _ _ _
    (rw (c.version_of.ensures, c.deref.ensures.value, ap (λ (b : Best). b.host_prices) c.plan.view_is) at
    c.in_ok-push_line.ensures) c.in_ok-push_line-2.ensures
    (rw (ap (λ (b : Best). b.cost) c.plan.view_is) at c.in_ok-push_line-3.ensures) c.in_ok-push_body.ensures
    c.in_ok-push_line-4.ensures
