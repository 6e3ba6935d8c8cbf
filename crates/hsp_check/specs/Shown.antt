-- What a Yes to a certificate shows.
use Rattle.std.specs.Prelude.{◌≡◌, ◌+◌, IfSome}
use Rattle.hsp_cert.specs.Certificate.{Claim, best_of, short_of}
use Rattle.hsp_check.specs.declared.verdict.Verdict.{Verdict}
use Rattle.hsp_check.specs.declared.verdict.Verdict.TheVariants.{Yes}
use Rattle.hsp_transport.specs.Sums.{times}
use Rattle.hsp_check.specs.Network.{Network}
use Rattle.hsp_check.specs.Plan.{Best, Feasible, Plan}
use Rattle.hsp_check.specs.Short.{IsShort}
use Rattle.hsp_check.specs.Uses.{table}
use Rattle.hsp_check.specs.Verdict.{is_one_of}

-- what stands where the verdict is Yes
abbrev pub AtYes : Type 0 → Verdict → Type 0
AtYes Shown verdict = verdict ≡ Yes → Shown

-- the plan of the uses is best: no feasible plan costs less
abbrev pub HasBestPlan : Network → Claim → Type 0
HasBestPlan n claim = IfSome (best_of claim) (λ c. Best n (table c.uses))

-- what the rows pay is the cost and what servers and hosts take
abbrev pub HasEqualSums : Network → Claim → Type 0
HasEqualSums n claim = IfSome (best_of claim) (λ c.
    times n.demands c.row_prices ≡ c.cost + times n.capacities c.server_prices + times n.limits c.host_prices)

-- the rows ask for more than all that they can reach
abbrev pub HasShortSet : Network → Claim → Type 0
HasShortSet n claim = IfSome (short_of claim) (λ c. IsShort n (is_one_of c.rows))

-- where the certificate is of a shortage no plan is feasible
abbrev pub HasNoPlan : Network → Claim → Type 0
HasNoPlan n claim = IfSome (short_of claim) (λ _. (x : Plan) → Feasible n x → ⊥)
