-- The plan that a check judges, where its certificate is valid.
use Rattle.std.proofs.Common.{◌≡◌, ◌∙◌, List, Some, ap, sym}
use Rattle.hsp_instance.specs.Instance.{Row}
use Rattle.hsp_prices.specs.Rows.{Service}
use Rattle.hsp_price_text.specs.Claim.{Best}
use Rattle.hsp_price_text.specs.declared.certificate.PriceCertificate.TheVariants as certificate
use Rattle.hsp_prices.specs.Verdict.{IsVerdict}
use Rattle.hsp_prices.specs.declared.verdict.PriceVerdict.TheVariants.{Yes}
use Rattle.hsp_price_check.specs.Checking.{IsJudge, judged_plan}
use Rattle.hsp_price_check.specs.declared.checking.Judge.{Judge}
use Rattle.hsp_price_check.specs.declared.checking.Judge.TheVariants as judge

-- a valid certificate of a plan has this plan judged
pub valid_is_judged : (at : Service) (rows : List Row) (plan : Best) (by : Judge)
    → IsJudge at (certificate.Plan plan) rows by → IsVerdict at rows (certificate.Plan plan) Yes
    → judged_plan by ≡ Some plan
valid_is_judged at rows plan (judge.Refused reason) is valid = absurd ((is rows).0 (valid reason))
valid_is_judged at rows plan (judge.Plan pass) is valid =
    let same : certificate.Plan plan ≡ certificate.Plan is.0 = is.1 in
    let own : plan ≡ is.0 = cc in ap Some (is.2.plan_is ∙ sym own)
valid_is_judged at rows plan (judge.Set pass) is valid = absurd (cc (is.1))
