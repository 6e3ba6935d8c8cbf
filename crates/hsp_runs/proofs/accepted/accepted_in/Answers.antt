use Rattle.std.proofs.Common.{inl, inr, Ok, Err, refl, subst}
use Rattle.std.proofs.lemmas.Result.{err_from_is_err_and}
use Rattle.hsp_runs.proofs.Always.{handed, held_read}
use Rattle.hsp_runs.specs.Always.{AcceptsClaim}
use Rattle.hsp_runs.proofs.accepted.accepted_in.Goals as goal

pub returns-in_err-instance-clause-always : goal.returns-in_err-instance-clause-always
returns-in_err-instance-clause-always c =
    λ it claim page spells. handed (AcceptsClaim claim) refl _ _ c.from_residual.ensures.1
    (c.in_err-instance.ensures.always it page)

pub returns-in_err-certificate-clause-accepted : goal.returns-in_err-certificate-clause-accepted
returns-in_err-certificate-clause-accepted c =
    let told =
    err_from_is_err_and c.from_residual-in_err-certificate.result c.from_residual-in_err-certificate.ensures.1 in
    let first = c.in_ok-instance.ensures.instance in
    let fault = c.in_err-certificate.field-0.0 in
    rw (told.1, told.2) (elim c.in_err-certificate.ensures.certificate [
      | inl memory ↦ inl memory
      | inr is ↦ inr (Ok c.in_ok-instance.instance, first, (Err fault, is, refl))
    ])

pub returns-in_err-certificate-clause-always : goal.returns-in_err-certificate-clause-always
returns-in_err-certificate-clause-always c = λ it claim page spells.
    handed (AcceptsClaim claim) refl _ _ c.from_residual-in_err-certificate.ensures.1
    (c.in_err-certificate.ensures.always claim spells.is spells.text)

pub returns-clause-always : goal.returns-clause-always
returns-clause-always c = λ it claim page spells.
    let one = c.in_ok-certificate.ensures.always claim spells.is spells.text in
    let held =
    held_read c.args.octets.now it c.in_ok-instance.instance claim c.in_ok-certificate.certificate
    (c.in_ok-instance.ensures.always it page) one spells in
    subst (λ k. AcceptsClaim k c.accepting.result) one (c.accepting.ensures.always held)
