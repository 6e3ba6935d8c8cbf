-- Whether a certificate holds for a network, and the first reason why it doesn't.
use Rattle.std.specs.Prelude.{◌≡◌, ℕ, ◌+◌, ◌<◌, ◌≤◌, ◌==◌, Bool, true, ⊤, List, length, All, slice_index}
use Rattle.std.specs.List.{list_any}
use Rattle.hsp_cert.specs.Certificate.{Claim, Best as BestClaim, Short as ShortClaim}
use Rattle.hsp_cert.specs.Certificate.Claim.{best, short}
use Rattle.hsp_check.specs.declared.verdict.Reason.{Reason}
use Rattle.hsp_check.specs.declared.verdict.Reason.TheVariants.{Shape, NoSuchUse, RowSum, Load, Cost, ArcPrice}
use Rattle.hsp_check.specs.declared.verdict.Reason.TheVariants.{UsedArcPrice, IdlePrice, DemandSum, CapacitySum}
use Rattle.hsp_check.specs.declared.verdict.Reason.TheVariants.{NotShort}
use Rattle.hsp_check.specs.declared.verdict.Verdict.{Verdict}
use Rattle.hsp_check.specs.declared.verdict.Verdict.TheVariants.{Yes, No}
use Rattle.hsp_check.specs.Network.{Network, is_allowed}
use Rattle.hsp_check.specs.Plan.{planned, served, load, host_load, total}
use Rattle.hsp_check.specs.Prices.{price_at}
use Rattle.hsp_check.specs.Short.{demand_of, capacity_of}
use Rattle.hsp_check.specs.Uses.{table}

abbrev pub number : Reason → ℕ
number Shape = 1
number NoSuchUse = 2
number RowSum = 3
number Load = 4
number Cost = 5
number ArcPrice = 6
number UsedArcPrice = 7
number IdlePrice = 8
number DemandSum = 9
number CapacitySum = 10
number NotShort = 11

-- What the certificate of a plan has to meet, each condition under the reason that is reported where it isn't met.
abbrev pub PlanMeets : Network → BestClaim → Reason → Type 0
-- there are as many prices as rows, as servers and as hosts
PlanMeets n c Shape =
    (length c.row_prices ≡ length n.demands) × (length c.server_prices ≡ length n.capacities)
    × (length c.host_prices ≡ length n.limits)
-- each use goes where its row may go
PlanMeets n c NoSuchUse = All (λ u. is_allowed n u.row u.site ≡ true) c.uses
-- each row gets what it asks for
PlanMeets n c RowSum = (i : ℕ) → i < length n.demands → served n (table c.uses) i ≡ slice_index n.demands i
-- no server and no host takes more than it can
PlanMeets n c Load =
    ((j : ℕ) → j < length n.capacities → load n (table c.uses) j ≤ slice_index n.capacities j)
    × ((h : ℕ) → h < length n.limits → host_load n (table c.uses) h ≤ slice_index n.limits h)
-- the plan costs what is said
PlanMeets n c Cost = c.cost ≡ total n (table c.uses)
-- no row pays more than an arc's cost and prices
PlanMeets n c ArcPrice =
    All (λ a. slice_index c.row_prices a.row ≤ a.cost + price_at n c.server_prices c.host_prices a.server) n.arcs
-- and exactly that where it uses the arc
PlanMeets n c UsedArcPrice =
    All (λ a. 0 < planned (table c.uses) a
    → slice_index c.row_prices a.row ≡ a.cost + price_at n c.server_prices c.host_prices a.server) n.arcs
-- servers and hosts with room left are free
PlanMeets n c IdlePrice =
    ((j : ℕ) → j < length n.capacities → load n (table c.uses) j < slice_index n.capacities j
    → slice_index c.server_prices j ≡ 0)
    × ((h : ℕ) → h < length n.limits → host_load n (table c.uses) h < slice_index n.limits h
    → slice_index c.host_prices h ≡ 0)
-- the rest is of short sets
PlanMeets n c DemandSum = ⊤
PlanMeets n c CapacitySum = ⊤
PlanMeets n c NotShort = ⊤

-- whether the row is one of these
abbrev pub is_one_of : List ℕ → ℕ → Bool
is_one_of rows i = list_any (λ r. r == i) rows

-- What the certificate of a short set has to meet, in the same way.
abbrev pub SetMeets : Network → ShortClaim → Reason → Type 0
-- each row is there
SetMeets n c Shape = All (λ r. r < length n.demands) c.rows
-- the rows ask for what is said, and what they can reach takes what is said
SetMeets n c DemandSum = c.demand ≡ demand_of n (is_one_of c.rows)
SetMeets n c CapacitySum = c.capacity ≡ capacity_of n (is_one_of c.rows)
-- which is less
SetMeets n c NotShort = c.capacity < c.demand
-- the rest is of plans
SetMeets n c NoSuchUse = ⊤
SetMeets n c RowSum = ⊤
SetMeets n c Load = ⊤
SetMeets n c Cost = ⊤
SetMeets n c ArcPrice = ⊤
SetMeets n c UsedArcPrice = ⊤
SetMeets n c IdlePrice = ⊤

abbrev pub Meets : Network → Claim → Reason → Type 0
Meets n (best c) r = PlanMeets n c r
Meets n (short c) r = SetMeets n c r

-- A reason stands where its condition isn't met.
abbrev pub StandsAgainst : Network → Claim → Reason → Type 0
StandsAgainst n c r = Meets n c r → ⊥

-- Yes: every condition is met. No: the reason stands, and the conditions of all reasons before it are met.
abbrev pub IsVerdict : Network → Claim → Verdict → Type 0
IsVerdict n c Yes = (r : Reason) → Meets n c r
IsVerdict n c (No r) = StandsAgainst n c r × ((earlier : Reason) → number earlier < number r → Meets n c earlier)
