-- What the text of a certificate shows of an instance: a transportation problem with limits of hosts (Network
-- Flows, sections 1.2 and 9.1).
use Rattle.std.specs.Prelude.{◌≡◌, ◌+◌, ◌<◌, true, ℕ, List, length, All, Result, IsOkUnless}
use Rattle.hsp_instance.specs.Instance.{Instance}
use Rattle.hsp_cert.specs.Certificate as certificates
use Rattle.hsp_cert.specs.Certificate.{Claim}
use Rattle.hsp_cert.specs.Certificate.Claim.{best, short}
use Rattle.hsp_cert.specs.Text.{text_of}
use Rattle.hsp_check.specs.Instance.{network_of}
use Rattle.hsp_check.specs.Network.{Network, is_allowed}
use Rattle.hsp_check.specs.Plan.{Best, Feasible, Plan, total}
use Rattle.hsp_check.specs.Prices.{ArePrices, Prices}
use Rattle.hsp_check.specs.Short.{capacity_of, demand_of}
use Rattle.hsp_transport.specs.Sums.{times}
use Rattle.hsp_check.specs.Uses.{table}
use Rattle.hsp_check.specs.Verdict.{is_one_of}
use Rattle.hsp_check.specs.declared.verdict.Verdict.{Verdict}
use Rattle.hsp_check.specs.declared.verdict.Verdict.TheVariants.{Yes}
use Rattle.hsp_inputs.specs.Headline.{Defines}
use Rattle.hsp_inputs.specs.Memory.{IsOrNoMemory}
use Rattle.hsp_inputs.specs.declared.fault.Fault.{Fault}
use Rattle.hsp_inputs.specs.declared.fault.Fault.TheVariants.{OutOfMemory}
use Rattle.hsp_inputs.specs.declared.inputs.Inputs.{Inputs}

-- The plan is best: feasible, and no feasible plan costs less. It has the stated cost, no arc's reduced cost is
-- negative, an arc in use has reduced cost 0, and servers and hosts with room left have price 0 (complementary
-- slackness, section 9.3). What its rows pay is the cost and what servers and hosts earn (section 9.4).
pub record HoldsBest (n : Network) (c : certificates.Best) : Type 0 where
  pub allowed : All (λ u. is_allowed n u.row u.site ≡ true) c.uses
  pub best : Best n (table c.uses)
  pub cost : c.cost ≡ total n (table c.uses)
  pub row_prices : (length c.row_prices ≡ length n.demands) × ArePrices c.row_prices
  pub server_prices : (length c.server_prices ≡ length n.capacities) × ArePrices c.server_prices
  pub host_prices : (length c.host_prices ≡ length n.limits) × ArePrices c.host_prices
  pub prices : Prices n (table c.uses) c.row_prices c.server_prices c.host_prices
  pub dual : times n.demands c.row_prices
      ≡ c.cost + times n.capacities c.server_prices + times n.limits c.host_prices

-- The rows ask for the stated demand, all servers that they can reach take the stated capacity, and that is less (a
-- cut, section 6.7). So no plan is feasible.
pub record HoldsShort (n : Network) (c : certificates.Short) : Type 0 where
  pub there : All (λ row. row < length n.demands) c.rows
  pub demand : c.demand ≡ demand_of n (is_one_of c.rows)
  pub capacity : c.capacity ≡ capacity_of n (is_one_of c.rows)
  pub less : c.capacity < c.demand
  pub none : (x : Plan) → Feasible n x → ⊥

abbrev pub Holds : Network → Claim → Type 0
Holds n (best c) = HoldsBest n c
Holds n (short c) = HoldsShort n c

-- the octets spell the claim, as a certificate that holds
pub record Spells (octets : List ℕ) (it : Instance) (claim : Claim) : Type 0 where
  pub is : certificates.IsCertificate claim
  pub text : octets ≡ text_of claim
  pub holds : Holds (network_of it) claim

abbrev pub Shows : List ℕ → Instance → Type 0
Shows octets it = (claim : Claim) × Spells octets it claim

-- the octets spell a certificate of a plan that holds, and by the plan it is so
abbrev pub ShowsPlan : List ℕ → Instance → (Plan → Type 0) → Type 0
ShowsPlan octets it Is = (plan : certificates.Best) × Spells octets it (best plan) × Is (table plan.uses)

-- ---- what runs show

-- What `plan` prints, and what `check` says Yes to, is the text of a certificate that holds for the instance
-- of the inputs: of a best plan with prices that show it, or of a short set, with which there is no plan.
-- Logs.antt says what the logs that `dispatch` and `fronts` answer show.
abbrev pub ShowsOf : Inputs → List ℕ → Type 0
ShowsOf inputs octets = (instance : Instance) × Defines inputs instance × Shows octets instance

-- ---- what runs always answer

-- where the inputs define an instance `plan` prints a text, unless memory runs out
abbrev pub PlansAlways : {X : Type 0} → Inputs → Result X Fault → Type 0
PlansAlways inputs answer = (instance : Instance) → Defines inputs instance → IsOkUnless answer OutOfMemory

-- where the octets are moreover the text of a certificate that holds for it `check` says Yes, unless memory runs out
abbrev pub SaysYesAlways : Inputs → List ℕ → Result Verdict Fault → Type 0
SaysYesAlways inputs octets answer = ShowsOf inputs octets → IsOrNoMemory Yes answer
