-- What Yes shows of the rows of a log.
use Rattle.std.proofs.Common.{◌≡◌, ℕ, List, Ok, Err, sym}
use Rattle.hsp_csv.specs.Records.{Fields}
use Rattle.hsp_tables.specs.Costs.{CostEntry}
use Rattle.hsp_instance.specs.Instance.{Instance, IsInstance, Row}
use Rattle.hsp_prices.specs.Rows.{Service}
use Rattle.hsp_price_text.specs.Certificate.{IsCertificate}
use Rattle.hsp_price_text.specs.Reading.{Means}
use Rattle.hsp_price_text.specs.declared.certificate.PriceCertificate.{PriceCertificate}
use Rattle.hsp_price_text.specs.declared.certificate.PriceCertificate.TheVariants.{Plan, Shortage}
use Rattle.hsp_prices.specs.Shown.{IsService, PlanIsShown, ShortageIsShown}
use Rattle.hsp_prices.specs.Verdict.{IsVerdict}
use Rattle.hsp_prices.specs.declared.verdict.PriceVerdict.TheVariants.{Yes}
use Rattle.hsp_inputs.specs.declared.inputs.Inputs.{Inputs}
use Rattle.hsp_inputs.proofs.Steps.{went_on}
use Rattle.hsp_price_check.specs.Classes.{service_of}
use Rattle.hsp_inputs.proofs.PageCosts.{costs_of_page}
use Rattle.hsp_price_runs.specs.PriceRun.{AnswersRead, IsVerdictBy, OfInput}
use Rattle.hsp_inputs.specs.Readings.{IsCertificateIn}
use Rattle.hsp_inputs.proofs.CertificateRead.{certificate_means}
use Rattle.hsp_price_runs.specs.PricesShown.{ShowsLog, ShowsRows}
use Rattle.hsp_price_runs.proofs.RowsSpelled.{log_spelled}

-- an instance within its limits is such a service
is_service : (costs : List CostEntry) (it : Instance) → IsInstance it → IsService (service_of costs it)
is_service costs it is = record { sites = is.sites; hosts = is.hosts; servers = is.servers }

module _ (plans : PlanIsShown) (shortages : ShortageIsShown) where
  -- Yes to either certificate shows it
  rows_shown : (at : Service) (rows : List Row) (certificate : PriceCertificate) → IsService at
      → IsCertificate certificate → IsVerdict at rows certificate Yes → ShowsRows at rows certificate
  rows_shown at rows (Plan plan) service is valid = plans at rows plan service is valid
  rows_shown at rows (Shortage set) service is valid = shortages at rows set service valid

  -- Yes by the inputs shows it of the log
  pub yes_shows : (inputs : Inputs) (octets : List ℕ) (records : List Fields)
      → AnswersRead (λ it. IsVerdictBy) inputs octets (Ok Yes) records → ShowsLog inputs octets records
  yes_shows inputs octets records (it, own, (costs, read, judged)) =
      let certificate = went_on _ _ Yes judged in
      let text = text_means certificate.0 certificate.1 in
      let rows = went_on _ _ Yes certificate.2 in
      record {
        it = it;
        defines = own.defines;
        costs = costs;
        are_costs = costs_of_page inputs it costs own.defines read;
        rows = rows.0;
        spelled = log_spelled records rows.0 (sym rows.1);
        certificate = certificate.0;
        is = text.0;
        text = text.1;
        shows =
            rows_shown (service_of costs it) rows.0 certificate.0 (is_service costs it own.within) text.0 rows.2;
      }
    where
      text_means : (certificate : PriceCertificate) → OfInput (IsCertificateIn octets) (Ok certificate)
          → Means octets (Ok certificate)
      text_means certificate (Ok own, is, same) =
          let one : certificate ≡ own = cc (same) in rw one (certificate_means octets own is)
      text_means certificate (Err e, is, same) = absurd (cc same)
