-- The certificate of the servers that short groups reach.
use Rattle.std.specs.Prelude.{◌≡◌, ◌<◌, ◌⊎◌, ℕ, Bool, true, List, All, length, sum_by, if◌then◌else◌}
use Rattle.std.specs.List.{list_all}
use Rattle.hsp_text.specs.declared.limits.TheConstants.{GREATEST_SUM}
use Rattle.hsp_transport.specs.Cut.{reaches}
use Rattle.hsp_transport.specs.Lists.{flag_at}
use Rattle.hsp_network.specs.Network.{numbered}
use Rattle.hsp_instance.specs.Instance.{Row}
use Rattle.hsp_check.specs.Verdict.{is_one_of}
use Rattle.hsp_prices.specs.Rows.{Service, network_for}
use Rattle.hsp_price_text.specs.Claim.{Short, are_servers}
use Rattle.hsp_prices.specs.ServerSets.{capacity_of_servers}
use Rattle.hsp_prices.specs.Sums.{caught_in_all}
use Rattle.hsp_prices.specs.Groups.{AreGroupsOf, Group, network_of_groups}
use Rattle.hsp_prices.specs.KeptRows.{KeptRow, with_leaving}
use Rattle.hsp_prices.specs.Solved.{AreRows}
use Rattle.hsp_price_check.specs.PlanPass.{AreNumbersOf}
use Rattle.hsp_price_check.specs.declared.numbers.ServiceNumbers.{ServiceNumbers}

-- a server is flagged exactly where an arc of a flagged group leads there, whatever the service
abbrev pub AreReachedBy : List Group → List Bool → List Bool → Type 0
AreReachedBy groups set reached =
    (at : Service) (j : ℕ) → flag_at reached j ≡ reaches (numbered (network_of_groups at groups)) (flag_at set) j

-- each arc of the group leads to a flagged server
abbrev pub is_caught : List Bool → Group → Bool
is_caught reached group = list_all (λ arc. flag_at reached arc.server) group.arcs

-- what the groups ask for that can go to flagged servers only
abbrev pub caught_demand : List Bool → List Group → ℕ
caught_demand reached groups = sum_by (λ group. if is_caught reached group then group.demand else 0) groups

-- The certificate has the flagged servers, which are there, and no row that only keeps arcs into them has another arc.
-- It says what rows ask for that can go nowhere else, and what the servers take.
pub record IsShortageOf (at : Service) (rows : List Row) (kept : List KeptRow) (reached : List Bool) (short : Short) :
    Type 0 where
  pub servers : (j : ℕ) → is_one_of short.servers j ≡ flag_at reached j
  pub there : All (λ j. j < length at.servers) short.servers
  pub leaving : All (λ row. with_leaving (is_one_of short.servers) row ≡ row) kept
  pub demand : short.demand ≡ caught_in_all at short.servers rows
  pub capacity : short.capacity ≡ capacity_of_servers (network_for at rows) (is_one_of short.servers)

-- So it is for all rows of each service of these numbers whose groups these are, where no row that only keeps arcs to
-- flagged servers has another arc.
abbrev pub IsShortageFor : ServiceNumbers → List Group → List Bool → Short → Type 0
IsShortageFor numbers groups reached short =
    (at : Service) (rows : List Row) (kept : List KeptRow) → AreNumbersOf at numbers → AreRows at rows kept
    → AreGroupsOf kept groups → All (λ row. with_leaving (flag_at reached) row ≡ row) kept
    → IsShortageOf at rows kept reached short

-- such a certificate, whose servers ascend, has a sum past the limits of a text
pub record IsShortagePast (numbers : ServiceNumbers) (groups : List Group) (reached : List Bool) : Type 0 where
  pub short : Short
  pub is : IsShortageFor numbers groups reached short
  pub servers : are_servers short.servers ≡ true
  pub past : (GREATEST_SUM < short.demand) ⊎ (GREATEST_SUM < short.capacity)
