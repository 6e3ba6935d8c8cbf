use Rattle.std.proofs.Common.{refl, subst, sym}
use Rattle.hsp_check.specs.declared.verdict.Verdict.TheVariants.{Yes}
use Rattle.hsp_inputs.specs.Memory.{IsOrNoMemory}
use Rattle.hsp_runs.specs.Shown.{Shows}
use Rattle.hsp_runs.proofs.Always.{checked_shows, handed}
use Rattle.hsp_runs.proofs.Reporting.{stands_then}
use Rattle.hsp_runs.proofs.checking.check_run.Goals as goal

pub returns-in_err-instance-clause-exactly : goal.returns-in_err-instance-clause-exactly
returns-in_err-instance-clause-exactly c =
    λ (it, page, shows). handed (IsOrNoMemory Yes) refl _ _ c.from_residual.ensures.1
    (c.in_err-instance.ensures.always it page)

pub returns-clause-exactly : goal.returns-clause-exactly
returns-clause-exactly c = λ (it, page, shows).
    c.judged_text.ensures.always
    (subst (λ k. Shows c.args.cert.now k) (sym (c.in_ok-instance.ensures.always it page)) shows)

pub returns-clause-verdict : goal.returns-clause-verdict
returns-clause-verdict c =
    stands_then _ _ _ _ _ c.judged_text.result c.in_ok-instance.ensures.instance c.judged_text.ensures.verdict

pub returns-clause-shows : goal.returns-clause-shows
returns-clause-shows c =
    checked_shows c.args.inputs.now c.args.cert.now c.in_ok-instance.instance c.judged_text.result
    c.in_ok-instance.ensures.defines c.judged_text.ensures.shows
