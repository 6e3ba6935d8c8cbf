-- What Yes to a certificate by prices shows of the rows of a log, of which there may be any number.
use Rattle.std.specs.Prelude.{◌≡◌, ℕ, List}
use Rattle.hsp_csv.specs.Records.{Fields}
use Rattle.hsp_tables.specs.Costs.{CostEntry}
use Rattle.hsp_instance.specs.Instance.{Instance, Row}
use Rattle.hsp_check.specs.Plan.{Feasible, Plan}
use Rattle.hsp_check.specs.Verdict.{is_one_of}
use Rattle.hsp_prices.specs.Rows.{Service, network_for}
use Rattle.hsp_prices.specs.ServerSets.{AreShort}
use Rattle.hsp_price_text.specs.Certificate.{IsCertificate}
use Rattle.hsp_price_text.specs.Text.{text_of}
use Rattle.hsp_price_text.specs.declared.certificate.PriceCertificate.{PriceCertificate}
use Rattle.hsp_price_text.specs.declared.certificate.PriceCertificate.TheVariants as certificates
use Rattle.hsp_prices.specs.Shown.{IsShownBy}
use Rattle.hsp_inputs.specs.Headline.{AreCosts, Defines}
use Rattle.hsp_inputs.specs.declared.inputs.Inputs.{Inputs}
use Rattle.hsp_price_check.specs.Classes.{service_of}
use Rattle.hsp_log.specs.LogRows.{SpellsLog}
use Rattle.hsp_inputs.specs.Limits.{limits_of}

-- a best plan of the rows, with the cost and the loads of the certificate, or a set of servers that is short, so that
-- no plan is feasible
abbrev pub ShowsRows : Service → List Row → PriceCertificate → Type 0
ShowsRows at rows (certificates.Plan plan) = (x : Plan) × IsShownBy at rows plan x
ShowsRows at rows (certificates.Shortage set) =
    AreShort (network_for at rows) (is_one_of set.servers) × ((x : Plan) → Feasible (network_for at rows) x → ⊥)

-- The inputs define an instance and costs, the records of a log spell rows, the octets are the text of a certificate,
-- and that shows this of the rows.
pub record ShowsLog (inputs : Inputs) (octets : List ℕ) (records : List Fields) : Type 0 where
  pub it : Instance
  pub defines : Defines inputs it
  pub costs : List CostEntry
  pub are_costs : AreCosts (limits_of inputs) it.sites inputs.costs.items costs
  pub rows : List Row
  pub spelled : SpellsLog records rows
  pub certificate : PriceCertificate
  pub is : IsCertificate certificate
  pub text : octets ≡ text_of certificate
  pub shows : ShowsRows (service_of costs it) rows certificate
