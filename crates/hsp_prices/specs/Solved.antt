-- What a solved network of groups shows of the rows: a certificate by prices that holds for them.
use Rattle.std.specs.Prelude.{◌≡◌, ◌<◌, ◌≤◌, ◌==◌, ◌*◌, ◌&&◌, ℕ, Bool, true, false, ⊤, List, [], ◌∷◌, length, map}
use Rattle.std.specs.Prelude.{All, drop, take, sum_by, if◌then◌else◌}
use Rattle.std.specs.List.{AllPairs, AllZip, flat_map, list_any, zip}
use Rattle.std.specs.Str.{bytes_eq}
use Rattle.hsp_instance.specs.Instance.{Row}
use Rattle.hsp_instance.specs.declared.arc.Arc.{Arc}
use Rattle.hsp_check.specs.Verdict.{is_one_of}
use Rattle.hsp_network.specs.Answer.{IsMet, IsShortSet}
use Rattle.hsp_network.specs.Network.{numbered}
use Rattle.hsp_network.specs.declared.network.PricedFlow.{PricedFlow}
use Rattle.hsp_transport.specs.Cut.{reaches}
use Rattle.hsp_transport.specs.Lists.{flag_at}
use Rattle.hsp_prices.specs.Rows.{Service, network_for}
use Rattle.hsp_price_text.specs.Claim.{Best, Class, Short}
use Rattle.hsp_price_text.specs.declared.certificate.PriceCertificate.TheVariants as certificate
use Rattle.hsp_prices.specs.ServerSets.{capacity_of_servers}
use Rattle.hsp_prices.specs.Least.{least_arcs, pay_over, servers_of}
use Rattle.hsp_prices.specs.Shown.{IsService}
use Rattle.hsp_prices.specs.Sums.{caught_in_all}
use Rattle.hsp_prices.specs.Verdict.{IsVerdict}
use Rattle.hsp_prices.specs.declared.verdict.PriceVerdict.TheVariants.{Yes}
use Rattle.hsp_prices.specs.Groups.{AreGroupsOf, Group, network_of_groups}
use Rattle.hsp_prices.specs.KeptRows.{IsRow, KeptRow, with_least, with_leaving}

-- the rows in memory are those of the service
abbrev pub AreRows : Service → List Row → List KeptRow → Type 0
AreRows at rows kept = AllZip (IsRow at) rows kept

-- ---- a plan

-- the flow on each arc of each group, group by group
abbrev pub flows_by : List Group → List ℕ → List (List ℕ)
flows_by [] flows = []
flows_by (group ∷ groups) flows =
    take (length group.arcs) flows ∷ flows_by groups (drop (length group.arcs) flows)

-- what flows from a group to a server
abbrev pub flow_to : ℕ → Group × List ℕ → ℕ
flow_to j sent = sum_by (λ own. if own.0.server == j then own.1 else 0) (zip sent.0.arcs sent.1)

-- the servers that a group's queries pay least at, where a function says what a query pays over an arc
abbrev pub least_servers_by : (Arc → ℕ) → Group → List ℕ
least_servers_by pay group = servers_of (least_arcs pay group.arcs)

-- the same by the prices of a plan
abbrev pub least_servers : Service → Best → Group → List ℕ
least_servers at plan group = least_servers_by (pay_over at plan) group

-- a group is of a class
abbrev pub is_part_by : (Arc → ℕ) → Class → Group → Bool
is_part_by pay class group =
    bytes_eq class.region group.region && bytes_eq class.servers (least_servers_by pay group)

abbrev pub is_part : Service → Best → Class → Group → Bool
is_part at plan class group = is_part_by (pay_over at plan) class group

-- two classes are of one region and have the same servers
abbrev pub is_same : Class → Class → Bool
is_same class other = bytes_eq class.region other.region && bytes_eq class.servers other.servers

-- a group with several least servers has a class
abbrev pub HasClassBy : (Arc → ℕ) → List Class → Group → List ℕ → Type 0
HasClassBy pay classes group [] = ⊤
HasClassBy pay classes group (j ∷ []) = ⊤
HasClassBy pay classes group (j ∷ k ∷ more) = list_any (λ class. is_part_by pay class group) classes ≡ true

abbrev pub HasClass : Service → Best → Group → List ℕ → Type 0
HasClass at plan group least = HasClassBy (pay_over at plan) plan.classes group least

-- what the groups of a class send to a server
abbrev pub sent_to : (Arc → ℕ) → List (Group × List ℕ) → Class → ℕ → ℕ
sent_to pay sent class j = sum_by (λ own. if is_part_by pay class own.0 then flow_to j own else 0) sent

abbrev pub sent_by : Service → Best → List (Group × List ℕ) → Class → ℕ → ℕ
sent_by at plan sent class j = sent_to (pay_over at plan) sent class j

-- Each group with several least servers has one class, each class has a group, and sends to each of its servers what
-- its groups do.
pub record AreClassesBy (pay : Arc → ℕ) (groups : List Group) (flows : List ℕ) (classes : List Class) : Type 0 where
  pub placed : All (λ group. HasClassBy pay classes group (least_servers_by pay group)) groups
  pub used : All (λ class. list_any (λ group. is_part_by pay class group) groups ≡ true) classes
  pub several : All (λ class. 2 ≤ length class.servers) classes
  pub apart : AllPairs (λ class later. is_same class later ≡ false) classes
  pub amounts :
      All (λ class. class.amounts ≡ map (sent_to pay (zip groups (flows_by groups flows)) class) class.servers)
      classes

-- the same by the prices of a plan
abbrev pub AreClassesOf : Service → Best → List Group → List ℕ → Type 0
AreClassesOf at plan groups flows = AreClassesBy (pay_over at plan) groups flows plan.classes

-- what a flow over the groups' arcs costs
abbrev pub cost_of : List Group → List ℕ → ℕ
cost_of groups flows = sum_by (λ own. own.0.cost * own.1) (zip (flat_map (λ group. group.arcs) groups) flows)

-- The groups' network is met by a flow with prices, and the certificate has these prices, the classes of the groups and
-- the cost of the flow. Each row keeps the arcs over which it pays least.
pub record IsPlanOfGroups (at : Service) (kept : List KeptRow) (groups : List Group) (flow : PricedFlow) (plan : Best) :
    Type 0 where
  pub of_rows : AreGroupsOf kept groups
  pub met : IsMet (network_of_groups at groups) flow
  pub least : All (λ row. with_least (pay_over at plan) row ≡ row) kept
  pub server_prices : plan.server_prices ≡ flow.server_prices.items
  pub host_prices : plan.host_prices ≡ flow.host_prices.items
  pub classes : AreClassesOf at plan groups flow.flows.items
  pub cost : plan.cost ≡ cost_of groups flow.flows.items

-- then it is a valid one of the rows
abbrev pub GroupsShowBest : Type 0
GroupsShowBest =
    (at : Service) (rows : List Row) (kept : List KeptRow) (groups : List Group) (flow : PricedFlow) (plan : Best)
    → IsService at → AreRows at rows kept → IsPlanOfGroups at kept groups flow plan
    → IsVerdict at rows (certificate.Plan plan) Yes

-- ---- a short set

-- Some groups are short, and the certificate's set has the servers that they reach. No row that only keeps arcs into
-- the set has another arc. The certificate says what rows ask for that can go nowhere else, and what the servers take.
pub record IsShortOfGroups (at : Service) (rows : List Row) (kept : List KeptRow) (groups : List Group)
    (set : List Bool) (short : Short) : Type 0 where
  pub of_rows : AreGroupsOf kept groups
  pub is_short : IsShortSet (network_of_groups at groups) set
  pub servers : (j : ℕ) → is_one_of short.servers j ≡ reaches (numbered (network_of_groups at groups)) (flag_at set) j
  pub there : All (λ j. j < length at.servers) short.servers
  pub leaving : All (λ row. with_leaving (is_one_of short.servers) row ≡ row) kept
  pub demand : short.demand ≡ caught_in_all at short.servers rows
  pub capacity : short.capacity ≡ capacity_of_servers (network_for at rows) (is_one_of short.servers)

-- then it is a valid one of the rows
abbrev pub GroupsShowShort : Type 0
GroupsShowShort =
    (at : Service) (rows : List Row) (kept : List KeptRow) (groups : List Group) (set : List Bool) (short : Short)
    → IsService at → AreRows at rows kept → IsShortOfGroups at rows kept groups set short
    → IsVerdict at rows (certificate.Shortage short) Yes
