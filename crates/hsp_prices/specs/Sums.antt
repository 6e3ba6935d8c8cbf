-- What rows and classes bring to servers and cost, and what rows pay. Each row goes to its least server, where it has
-- only one; of the rows of a class as many queries go to each of its servers as the class says.
use Rattle.std.specs.Prelude.{ℕ, ◌+◌, ◌*◌, ◌==◌, List, [], ◌∷◌, sum_by, length, slice_get, Option, Some, None}
use Rattle.std.specs.Prelude.{if◌then◌else◌}
use Rattle.std.specs.List.{list_all, zip}
use Rattle.hsp_instance.specs.Building.{cost_of}
use Rattle.hsp_instance.specs.Instance.{Row, Server, Site}
use Rattle.hsp_instance.specs.declared.arc.Arc.{Arc}
use Rattle.hsp_check.specs.Plan.{is_on}
use Rattle.hsp_check.specs.Verdict.{is_one_of}
use Rattle.hsp_prices.specs.Rows.{Service}
use Rattle.hsp_price_text.specs.Claim.{Best, Class}
use Rattle.hsp_transport.specs.Sums.{sum_below}
use Rattle.hsp_prices.specs.Least.{arcs_of, host_at, is_of, least_of, only_arc, pay_over}

-- ---- what a query costs

abbrev pub cost_or_none : Option ℕ → ℕ
cost_or_none None = 0
cost_or_none (Some cost) = cost

abbrev pub site_cost : Service → List ℕ → Option Site → ℕ
site_cost at region None = 0
site_cost at region (Some site) = cost_or_none (cost_of at.costs region site.name)

abbrev pub server_cost : Service → List ℕ → Option Server → ℕ
server_cost at region None = 0
server_cost at region (Some server) = site_cost at region (slice_get at.sites server.site)

-- what a query from a region costs at a server: the cost of its site, or 0 where the region has none there
abbrev pub cost_at : Service → List ℕ → ℕ → ℕ
cost_at at region j = server_cost at region (slice_get at.servers j)

-- ---- a row that has only one least server

abbrev pub brings : ℕ → ℕ → Option Arc → ℕ
brings count j None = 0
brings count j (Some arc) = if arc.server == j then count else 0

abbrev pub costs : ℕ → Option Arc → ℕ
costs count None = 0
costs count (Some arc) = arc.cost * count

-- what it brings to a server
abbrev pub row_load : Service → Best → ℕ → Row → ℕ
row_load at plan j row = brings row.count j (only_arc (least_of at plan row))

-- what it costs
abbrev pub row_cost : Service → Best → Row → ℕ
row_cost at plan row = costs row.count (only_arc (least_of at plan row))

-- ---- a class

-- its servers, each with its amount
abbrev pub sends : Class → List (ℕ × ℕ)
sends class = zip class.servers class.amounts

-- what it brings to a server
abbrev pub class_load : ℕ → Class → ℕ
class_load j class = sum_by (λ sent. if sent.0 == j then sent.1 else 0) (sends class)

-- what it costs
abbrev pub class_cost : Service → Class → ℕ
class_cost at class = sum_by (λ sent. cost_at at class.region sent.0 * sent.1) (sends class)

-- what the rows of a class ask for
abbrev pub asked_of : Service → Best → List Row → Class → ℕ
asked_of at plan rows class = sum_by (λ row. if is_of at plan class row then row.count else 0) rows

-- ---- all of them

-- what a server takes
abbrev pub load_at : Service → Best → List Row → ℕ → ℕ
load_at at plan rows j = sum_by (row_load at plan j) rows + sum_by (class_load j) plan.classes

-- what the servers on a host take together
abbrev pub host_load_at : Service → Best → List Row → ℕ → ℕ
host_load_at at plan rows h =
    sum_below (length at.servers) (λ j. if is_on (host_at at j) h then load_at at plan rows j else 0)

-- what all of it costs
abbrev pub cost_in_all : Service → Best → List Row → ℕ
cost_in_all at plan rows = sum_by (row_cost at plan) rows + sum_by (class_cost at) plan.classes

-- ---- what rows pay

-- what a query pays over the first of some arcs, or 0 where there is none
abbrev pub first_pay : (Arc → ℕ) → List Arc → ℕ
first_pay pay [] = 0
first_pay pay (arc ∷ arcs) = pay arc

-- what a query of a row pays at least: what it pays over the first of its least arcs, or 0 where it has none
abbrev pub least_pay : Service → Best → Row → ℕ
least_pay at plan row = first_pay (pay_over at plan) (least_of at plan row)

-- what the rows pay together
abbrev pub paid_in_all : Service → Best → List Row → ℕ
paid_in_all at plan rows = sum_by (λ row. row.count * least_pay at plan row) rows

-- ---- a set of servers

-- what rows ask for that can go to servers of the set only
abbrev pub caught_count : Service → List ℕ → Row → ℕ
caught_count at servers row =
    if list_all (λ arc. is_one_of servers arc.server) (arcs_of at row) then row.count else 0

abbrev pub caught_in_all : Service → List ℕ → List Row → ℕ
caught_in_all at servers rows = sum_by (caught_count at servers) rows
