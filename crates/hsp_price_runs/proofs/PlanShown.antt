-- The text of a plan of a log's rows is one to which the check says yes, and which shows that.
use Rattle.std.proofs.Common.{◌≡◌, ◌≢◌, ℕ, List, Result, Ok, Err, refl, sym}
use Rattle.hsp_csv.specs.Records.{Fields}
use Rattle.hsp_tables.specs.Costs.{CostEntry}
use Rattle.hsp_instance.specs.Instance.{Instance}
use Rattle.hsp_cert.specs.declared.fault.CertFault.{CertFault}
use Rattle.hsp_cert.specs.declared.fault.CertFault.TheVariants as cert_fault
use Rattle.hsp_price_text.specs.declared.certificate.PriceCertificate.{PriceCertificate}
use Rattle.hsp_prices.specs.Shown.{PlanIsShown, ShortageIsShown}
use Rattle.hsp_prices.specs.declared.verdict.PriceVerdict.TheVariants.{Yes}
use Rattle.hsp_inputs.specs.Instance.{ReadsCosts}
use Rattle.hsp_inputs.specs.declared.inputs.Inputs.{Inputs}
use Rattle.hsp_inputs.proofs.Steps.{went_on}
use Rattle.hsp_price_check.specs.Classes.{service_of}
use Rattle.hsp_price_runs.specs.PriceRun.{AnswersByPrices, AnswersRead, AnswersRecords, AnswersText, IsReadFrom}
use Rattle.hsp_price_runs.specs.PriceRun.{IsVerdictBy}
use Rattle.hsp_inputs.specs.Readings.{IsCertificateIn}
use Rattle.hsp_price_runs.proofs.Judged.{inputs_are, read_is, text_is}
use Rattle.hsp_price_runs.proofs.Shown.{yes_shows}
use Rattle.hsp_price_runs.specs.PlanRun.{IsPlanBy, IsShownPlan, PlansRecords}
use Rattle.hsp_price_runs.specs.PricesText.{IsTextOf, octets_of}
use Rattle.hsp_price_runs.specs.declared.prices_text.PricesText.{PricesText}
use Rattle.hsp_inputs.specs.Limits.{limits_of}

-- the octets of its text spell the certificate
spelled : (certificate : PriceCertificate) (text : PricesText) → IsTextOf certificate text
    → IsCertificateIn (octets_of text) (Ok certificate)
spelled certificate text is =
    let other : ◌≡◌ {A = Result PriceCertificate CertFault} (Ok certificate) (Err cert_fault.OutOfMemory) → ⊥ =
    λ e. cc in (Ok certificate, (is.is, is.octets), other, refl)

module _ (plans : PlanIsShown) (shortages : ShortageIsShown) (inputs : Inputs) (it : Instance)
    (own : IsReadFrom inputs it) (costs : List CostEntry)
    (read : ReadsCosts (limits_of inputs) inputs.costs.items (Ok costs))
    (records : List Fields) (text : PricesText)
    (planned : AnswersRecords (IsPlanBy (service_of costs it)) (Ok text) records) where
  -- the check says yes
  judged : AnswersRead (λ it. IsVerdictBy) inputs (octets_of text) (Ok Yes) records
  judged =
      let at = service_of costs it in
      let rows = went_on _ _ text planned in
      let given = rows.2 in
      let asked : AnswersRecords (IsVerdictBy at given.certificate) (Ok Yes) records =
      (Ok rows.0, rows.1, given.valid) in
      let whole : AnswersText (IsVerdictBy at) (octets_of text) (Ok Yes) records =
      text_is (IsVerdictBy at) (octets_of text) records given.certificate (Ok Yes)
      (spelled given.certificate text given.is) asked in (it, own, (costs, read, whole))

  -- and so the text shows it
  pub shown : IsShownPlan inputs text records
  shown = record {
    planned = inputs_are PlansRecords inputs records it (Ok text) own.is (costs, read, planned);
    checked = read_is (AnswersByPrices (λ it. IsVerdictBy) (octets_of text)) inputs records (Ok Yes) judged;
    shows = yes_shows plans shortages inputs (octets_of text) records judged;
  }
