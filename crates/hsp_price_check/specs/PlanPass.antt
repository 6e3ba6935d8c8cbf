-- A pass over rows that judges the certificate of a plan.
use Rattle.std.specs.Prelude.{◌≡◌, ◌≤◌, ℕ, List, [], ◌∷◌, length, map, position, Some, None}
use Rattle.hsp_instance.specs.Instance.{Row}
use Rattle.hsp_instance.specs.declared.arc.Arc.{Arc}
use Rattle.hsp_prices.specs.Rows.{Service}
use Rattle.hsp_price_text.specs.Certificate.{IsCertificate}
use Rattle.hsp_price_text.specs.Claim.{Best}
use Rattle.hsp_price_text.specs.declared.certificate.PriceCertificate.TheVariants as certificate
use Rattle.hsp_prices.specs.Least.{arcs_of, servers_of}
use Rattle.hsp_prices.specs.Shown.{IsService}
use Rattle.hsp_prices.specs.Verdict.{PlanMeets}
use Rattle.hsp_prices.specs.declared.verdict.PriceReason.TheVariants.{Shape, NoSuchServer}
use Rattle.hsp_price_check.specs.FirstRows.{FirstRow}
use Rattle.hsp_price_check.specs.ClassNumbers.{HasClasses, is_named}
use Rattle.hsp_price_check.specs.Extras.{AreExtras}
use Rattle.hsp_price_check.specs.Passed.{AreSums}
use Rattle.hsp_price_check.specs.declared.numbers.ServiceNumbers.{ServiceNumbers}
use Rattle.hsp_price_check.specs.declared.plan_pass.PlanPass.{PlanPass}
use Rattle.hsp_price_check.specs.declared.sums.RowPlace.{RowPlace}
use Rattle.hsp_price_check.specs.declared.sums.RowPlace.TheVariants.{Nowhere, Over, OfClass, Unlisted}

-- where a row goes by its region and its least arcs
abbrev pub IsPlaceBy : List FirstRow → List ℕ → List Arc → RowPlace → Type 0
IsPlaceBy numbers region least Nowhere = least ≡ []
IsPlaceBy numbers region least (Over arc) = least ≡ arc ∷ []
IsPlaceBy numbers region least (OfClass class) =
    (2 ≤ length least)
    × ((classes : _) → HasClasses classes numbers
    → position (is_named region (servers_of least)) classes ≡ Some class)
IsPlaceBy numbers region least Unlisted =
    (2 ≤ length least)
    × ((classes : _) → HasClasses classes numbers → position (is_named region (servers_of least)) classes ≡ None)

-- what servers and hosts take, and where servers stand
pub record AreNumbersOf (at : Service) (numbers : ServiceNumbers) : Type 0 where
  pub capacities : numbers.capacities.items ≡ map (λ server. server.capacity) at.servers
  pub limits : numbers.limits.items ≡ map (λ host. host.limit) at.hosts
  pub server_hosts : numbers.server_hosts.items ≡ map (λ server. server.host) at.servers

pub record IsPlanPass (at : Service) (plan : Best) (rows : List Row) (pass : PlanPass) : Type 0 where
  pub service : IsService at
  pub plan_is : pass.plan.now ≡ plan
  pub within : IsCertificate (certificate.Plan plan)
  pub numbers : AreNumbersOf at pass.numbers
  pub shape : PlanMeets at rows plan Shape
  pub there : PlanMeets at rows plan NoSuchServer
  pub extras : AreExtras pass.numbers.server_hosts.items plan.server_prices plan.host_prices pass.extras.items
  pub classes : HasClasses plan.classes pass.classes.entries
  pub sums : AreSums at plan rows pass.sums

-- the pass is one of some rows
abbrev pub IsOfRows : PlanPass → Type 0
IsOfRows pass = (at : Service) × (plan : Best) × (rows : List Row) × IsPlanPass at plan rows pass

-- a row of the region, the arcs and the count
pub record IsOfRow (at : Service) (row : Row) (region : List ℕ) (arcs : List Arc) (count : ℕ) : Type 0 where
  pub region_is : row.region ≡ region
  pub arcs_are : arcs_of at row ≡ arcs
  pub count_is : row.count ≡ count
