-- What a valid certificate by prices shows of rows of demand.
use Rattle.std.specs.Prelude.{◌≡◌, ℕ, ◌+◌, List, length, map}
use Rattle.hsp_instance.specs.Instance.{AreHosts, AreServers, AreSites, Host, Row}
use Rattle.hsp_check.specs.Plan.{Best as BestPlan, Feasible, Plan, host_load, load, total}
use Rattle.hsp_check.specs.Verdict.{is_one_of}
use Rattle.hsp_prices.specs.Rows.{Service, network_for}
use Rattle.hsp_price_text.specs.Certificate.{IsCertificate}
use Rattle.hsp_price_text.specs.Claim.{Best, Short}
use Rattle.hsp_price_text.specs.declared.certificate.PriceCertificate.TheVariants as certificate
use Rattle.hsp_prices.specs.ServerSets.{AreShort}
use Rattle.hsp_transport.specs.Sums.{times}
use Rattle.hsp_prices.specs.Sums.{host_load_at, load_at, paid_in_all}
use Rattle.hsp_prices.specs.Verdict.{IsVerdict}
use Rattle.hsp_prices.specs.declared.verdict.PriceVerdict.TheVariants.{Yes}

-- a service within the limits
pub record IsService (at : Service) : Type 0 where
  pub sites : AreSites at.sites
  pub hosts : AreHosts at.hosts
  pub servers : AreServers at.sites (length at.hosts) at.servers

-- The plan is a best one of the rows, costs what the certificate says, and brings to each server and each host what the
-- certificate's rows and classes bring. What the rows pay by the certificate's prices is what the plan costs and what
-- full servers and hosts take (strong duality; Network Flows, section 9.4).
pub record IsShownBy (at : Service) (rows : List Row) (plan : Best) (x : Plan) : Type 0 where
  pub best : BestPlan (network_for at rows) x
  pub cost : total (network_for at rows) x ≡ plan.cost
  pub loads : (j : ℕ) → load (network_for at rows) x j ≡ load_at at plan rows j
  pub host_loads : (h : ℕ) → host_load (network_for at rows) x h ≡ host_load_at at plan rows h
  -- what the rows pay is what the plan costs and what full servers and hosts take
  pub bound :
      paid_in_all at plan rows
      ≡ plan.cost
      + (times (map (λ server. server.capacity) at.servers) plan.server_prices
      + times (map (λ (host : Host). host.limit) at.hosts) plan.host_prices)

-- Yes to the certificate of a plan shows a plan of the rows.
abbrev pub PlanIsShown : Type 0
PlanIsShown =
    (at : Service) (rows : List Row) (plan : Best) → IsService at → IsCertificate (certificate.Plan plan)
    → IsVerdict at rows (certificate.Plan plan) Yes → (x : Plan) × IsShownBy at rows plan x

-- Yes to that of a short set shows that the servers of the set are short, so that no plan is feasible.
abbrev pub ShortageIsShown : Type 0
ShortageIsShown =
    (at : Service) (rows : List Row) (set : Short) → IsService at
    → IsVerdict at rows (certificate.Shortage set) Yes
    → AreShort (network_for at rows) (is_one_of set.servers)
    × ((x : Plan) → Feasible (network_for at rows) x → ⊥)
