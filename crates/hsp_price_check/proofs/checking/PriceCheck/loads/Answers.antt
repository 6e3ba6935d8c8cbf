use Rattle.std.proofs.Common.{subst}
use Rattle.hsp_price_text.specs.declared.certificate.PriceCertificate.TheVariants.{Plan}
use Rattle.hsp_price_check.specs.Checking.{IsJudge}
use Rattle.hsp_price_check.specs.declared.checking.Judge.TheVariants.{Refused}
use Rattle.hsp_price_check.proofs.checking.PriceCheck.loads.Goals as goal

pub returns-in-Refused-clause-valid : goal.returns-in-Refused-clause-valid
returns-in-Refused-clause-valid c at rows plan passed valid =
    let stands : IsJudge at (Plan plan) rows (Refused c.in-Refused.field-0) =
    subst (IsJudge at (Plan plan) rows) c.in-Refused.is passed.judge in
    absurd ((stands rows).0 (valid c.in-Refused.field-0))
