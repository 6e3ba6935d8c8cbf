-- What each server takes by the rows and the classes of a plan, and the bound that shows that no plan costs less.
use Rattle.std.specs.Prelude.{◌+◌, ◌++◌, ℕ, List, codes, length, map, slice_index}
use Rattle.std.specs.List.{flat_map, range_with_len}
use Rattle.hsp_instance.specs.Instance.{Host, Instance, Row}
use Rattle.hsp_prices.specs.Rows.{Service}
use Rattle.hsp_price_text.specs.Claim.{Best}
use Rattle.hsp_transport.specs.Sums.{times}
use Rattle.hsp_prices.specs.Sums.{load_at, paid_in_all}
use Rattle.hsp_report.specs.Columns.{difference_line}
use Rattle.hsp_report.specs.LoadReport.{load_header, server_line}

-- a server with what the rows and classes bring to it, and its price
abbrev pub load_line : Instance → Service → Best → List Row → ℕ → List ℕ
load_line it at plan rows j = server_line it j (load_at at plan rows j) (slice_index plan.server_prices j)

-- the servers in ascending number
abbrev pub load_lines : Instance → Service → Best → List Row → List ℕ
load_lines it at plan rows = flat_map (load_line it at plan rows) (range_with_len 0 (length it.servers))

-- what servers and hosts take at their prices where they are full
abbrev pub full_worth : Service → Best → ℕ
full_worth at plan =
    times (map (λ server. server.capacity) at.servers) plan.server_prices
    + times (map (λ (host : Host). host.limit) at.hosts) plan.host_prices

-- what the rows pay, without what servers and hosts take, is what the plan costs
abbrev pub bound_line : Service → Best → List Row → List ℕ
bound_line at plan rows =
    difference_line (codes "bound") (paid_in_all at plan rows) (full_worth at plan) plan.cost

abbrev pub load_report : Instance → Service → Best → List Row → List ℕ
load_report it at plan rows = load_header ++ (load_lines it at plan rows ++ bound_line at plan rows)

-- ---- while it is written

-- a server with the load and the price that stand at its number
abbrev pub line_by : Instance → List ℕ → List ℕ → ℕ → List ℕ
line_by it loads prices j = server_line it j (slice_index loads j) (slice_index prices j)

-- the servers in ascending number
abbrev pub lines_by : Instance → List ℕ → List ℕ → List ℕ
lines_by it loads prices = flat_map (line_by it loads prices) (range_with_len 0 (length it.servers))
