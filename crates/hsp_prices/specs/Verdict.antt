-- Whether a certificate by prices holds for the rows of demand of a service, and the first reason why it doesn't.
use Rattle.std.specs.Prelude.{◌≡◌, ℕ, ◌<◌, ◌≤◌, true, ⊤, List, [], ◌∷◌, length, map, All, sum, slice_index}
use Rattle.std.specs.List.{list_any}
use Rattle.hsp_instance.specs.Instance.{Host, Row}
use Rattle.hsp_instance.specs.declared.arc.Arc.{Arc}
use Rattle.hsp_check.specs.Verdict.{is_one_of}
use Rattle.hsp_prices.specs.Rows.{Service, network_for}
use Rattle.hsp_price_text.specs.Claim.{Best, Short}
use Rattle.hsp_price_text.specs.declared.certificate.PriceCertificate.{PriceCertificate}
use Rattle.hsp_price_text.specs.declared.certificate.PriceCertificate.TheVariants.{Plan, Shortage}
use Rattle.hsp_prices.specs.ServerSets.{capacity_of_servers}
use Rattle.hsp_prices.specs.Least.{is_of, least_of}
use Rattle.hsp_prices.specs.Sums.{asked_of, caught_in_all, cost_in_all, host_load_at, load_at}
use Rattle.hsp_prices.specs.declared.verdict.PriceReason.{PriceReason}
use Rattle.hsp_prices.specs.declared.verdict.PriceReason.TheVariants.{Shape, NoSuchServer, NotLeast, NoClass, ClassSum}
use Rattle.hsp_prices.specs.declared.verdict.PriceReason.TheVariants.{Load, Cost, IdlePrice, DemandSum, CapacitySum}
use Rattle.hsp_prices.specs.declared.verdict.PriceReason.TheVariants.{NotShort}
use Rattle.hsp_prices.specs.declared.verdict.PriceVerdict.{PriceVerdict}
use Rattle.hsp_prices.specs.declared.verdict.PriceVerdict.TheVariants.{Yes, No}

abbrev pub number : PriceReason → ℕ
number Shape = 1
number NoSuchServer = 2
number NotLeast = 3
number NoClass = 4
number ClassSum = 5
number Load = 6
number Cost = 7
number IdlePrice = 8
number DemandSum = 9
number CapacitySum = 10
number NotShort = 11

-- the servers are there
abbrev pub AreThere : Service → List ℕ → Type 0
AreThere at servers = All (λ j. j < length at.servers) servers

-- a row with no arc asks for nothing, and one with several least arcs has a class
abbrev pub IsPlaced : Service → Best → Row → List Arc → Type 0
IsPlaced at plan row [] = row.count ≡ 0
IsPlaced at plan row (arc ∷ []) = ⊤
IsPlaced at plan row (arc ∷ other ∷ more) = list_any (λ class. is_of at plan class row) plan.classes ≡ true

-- What the certificate of a plan has to meet, each condition under the reason that is reported where it isn't met.
abbrev pub PlanMeets : Service → List Row → Best → PriceReason → Type 0
-- there are as many prices as servers and as hosts
PlanMeets at rows plan Shape =
    (length plan.server_prices ≡ length at.servers) × (length plan.host_prices ≡ length at.hosts)
-- the servers of each class are there
PlanMeets at rows plan NoSuchServer = All (λ class. AreThere at class.servers) plan.classes
-- each class has a row
PlanMeets at rows plan NotLeast =
    All (λ class. list_any (λ row. is_of at plan class row) rows ≡ true) plan.classes
-- each row with several least servers has a class
PlanMeets at rows plan NoClass = All (λ row. IsPlaced at plan row (least_of at plan row)) rows
-- each class sends what its rows ask for
PlanMeets at rows plan ClassSum =
    All (λ class. sum class.amounts ≡ asked_of at plan rows class) plan.classes
-- no server and no host takes more than it can
PlanMeets at rows plan Load =
    ((j : ℕ) → j < length at.servers
    → load_at at plan rows j ≤ slice_index (map (λ server. server.capacity) at.servers) j)
    × ((h : ℕ) → h < length at.hosts
    → host_load_at at plan rows h ≤ slice_index (map (λ (host : Host). host.limit) at.hosts) h)
-- all of it costs what is said
PlanMeets at rows plan Cost = plan.cost ≡ cost_in_all at plan rows
-- servers and hosts with room left are free
PlanMeets at rows plan IdlePrice =
    ((j : ℕ) → j < length at.servers
    → load_at at plan rows j < slice_index (map (λ server. server.capacity) at.servers) j
    → slice_index plan.server_prices j ≡ 0)
    × ((h : ℕ) → h < length at.hosts
    → host_load_at at plan rows h < slice_index (map (λ (host : Host). host.limit) at.hosts) h
    → slice_index plan.host_prices h ≡ 0)
-- the rest is of short sets
PlanMeets at rows plan DemandSum = ⊤
PlanMeets at rows plan CapacitySum = ⊤
PlanMeets at rows plan NotShort = ⊤

-- What the certificate of a short set of servers has to meet, in the same way.
abbrev pub SetMeets : Service → List Row → Short → PriceReason → Type 0
-- its servers are there
SetMeets at rows set NoSuchServer = AreThere at set.servers
-- the rows that can go nowhere else ask for what is said
SetMeets at rows set DemandSum = set.demand ≡ caught_in_all at set.servers rows
-- and its servers, those of a host no more than its limit, take what is said
SetMeets at rows set CapacitySum =
    set.capacity ≡ capacity_of_servers (network_for at rows) (is_one_of set.servers)
-- which is less
SetMeets at rows set NotShort = set.capacity < set.demand
-- the rest is of plans
SetMeets at rows set Shape = ⊤
SetMeets at rows set NotLeast = ⊤
SetMeets at rows set NoClass = ⊤
SetMeets at rows set ClassSum = ⊤
SetMeets at rows set Load = ⊤
SetMeets at rows set Cost = ⊤
SetMeets at rows set IdlePrice = ⊤

abbrev pub Meets : Service → List Row → PriceCertificate → PriceReason → Type 0
Meets at rows (Plan plan) reason = PlanMeets at rows plan reason
Meets at rows (Shortage set) reason = SetMeets at rows set reason

-- A reason stands where its condition isn't met.
abbrev pub StandsAgainst : Service → List Row → PriceCertificate → PriceReason → Type 0
StandsAgainst at rows certificate reason = Meets at rows certificate reason → ⊥

-- Yes: every condition is met. No: the reason stands, and the conditions of all reasons before it are met.
abbrev pub IsVerdict : Service → List Row → PriceCertificate → PriceVerdict → Type 0
IsVerdict at rows certificate Yes = (reason : PriceReason) → Meets at rows certificate reason
IsVerdict at rows certificate (No reason) =
    StandsAgainst at rows certificate reason
    × ((earlier : PriceReason) → number earlier < number reason → Meets at rows certificate earlier)
