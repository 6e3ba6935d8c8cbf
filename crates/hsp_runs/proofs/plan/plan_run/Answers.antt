use Rattle.std.proofs.Common.{IsOkUnless, refl}
use Rattle.hsp_inputs.specs.declared.fault.Fault.TheVariants.{OutOfMemory}
use Rattle.hsp_runs.proofs.Always.{handed, planned_always}
use Rattle.hsp_runs.proofs.plan.plan_run.Goals as goal

pub returns-in_err-instance-clause-always : goal.returns-in_err-instance-clause-always
returns-in_err-instance-clause-always c =
    λ it page. handed (λ r. IsOkUnless r OutOfMemory) refl _ _ c.from_residual.ensures.1
    (c.in_err-instance.ensures.always it page)

pub returns-clause-always : goal.returns-clause-always
returns-clause-always c = λ it page. planned_always c.in_ok-instance.instance c.planned.result c.planned.ensures.text
