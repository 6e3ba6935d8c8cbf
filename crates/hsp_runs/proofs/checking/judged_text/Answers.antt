use Rattle.std.proofs.Common.{refl}
use Rattle.hsp_check.specs.declared.verdict.Verdict.TheVariants.{Yes}
use Rattle.hsp_inputs.specs.Memory.{IsOrNoMemory}
use Rattle.hsp_runs.proofs.Always.{handed, held_read}
use Rattle.hsp_runs.proofs.checking.judged_text.Goals as goal

pub returns-in_err-certificate-clause-always : goal.returns-in_err-certificate-clause-always
returns-in_err-certificate-clause-always c = λ (claim, spells).
    handed (IsOrNoMemory Yes) refl _ _ c.from_residual.ensures.1
    (c.in_err-certificate.ensures.always claim spells.is spells.text)

pub returns-clause-always : goal.returns-clause-always
returns-clause-always c = λ (claim, spells).
    let it = c.args.instance.now in
    let read = c.in_ok-certificate.certificate in
    c.judged.ensures.always
    (held_read c.args.octets.now it it claim read refl
    (c.in_ok-certificate.ensures.always claim spells.is spells.text) spells)
