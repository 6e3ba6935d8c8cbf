-- What each server takes by a plan, and the bound that shows that no plan costs less.
use Rattle.std.specs.Prelude.{◌≡◌, ◌+◌, ◌++◌, ◌∷◌, [], ℕ, List, codes, length, slice_index, IfSome}
use Rattle.std.specs.List.{flat_map, range_with_len}
use Rattle.hsp_cert.specs.Certificate.{Best, Claim, best_of}
use Rattle.hsp_instance.specs.Instance.{Instance}
use Rattle.hsp_check.specs.Instance.{network_of}
use Rattle.hsp_check.specs.Plan.{load, total}
use Rattle.hsp_transport.specs.Sums.{times}
use Rattle.hsp_check.specs.Uses.{table}
use Rattle.hsp_report.specs.Columns.{aligned, column_line, difference_line}
use Rattle.hsp_report.specs.Numbered.{server_at, site_name}

abbrev pub load_header : List ℕ
load_header = codes "place     server       load   capacity         price site" ++ 10 ∷ []

-- a server with a load and a price
abbrev pub server_line : Instance → ℕ → ℕ → ℕ → List ℕ
server_line it j taken price =
    let s = server_at it j in
    column_line
    (aligned 5 s.place ∷ aligned 10 s.id ∷ aligned 10 taken ∷ aligned 10 s.capacity
    ∷ aligned 13 price ∷ [])
    (site_name it s.site)

-- a server with what the plan gives it, and its price
abbrev pub load_line : Instance → Best → ℕ → List ℕ
load_line it plan j =
    server_line it j (load (network_of it) (table plan.uses) j) (slice_index plan.server_prices j)

-- what the rows pay, without what servers and hosts take, is what the plan costs
abbrev pub bound_line : Instance → Best → List ℕ
bound_line it plan =
    let n = network_of it in
    difference_line
    (codes "bound")
    (times n.demands plan.row_prices)
    (times n.capacities plan.server_prices + times n.limits plan.host_prices)
    (total n (table plan.uses))

-- the servers in ascending number
abbrev pub load_lines : Instance → Best → List ℕ
load_lines it plan = flat_map (load_line it plan) (range_with_len 0 (length it.servers))

abbrev pub load_report : Instance → Best → List ℕ
load_report it plan = load_header ++ (load_lines it plan ++ bound_line it plan)

-- the report of a certificate that shows a plan
abbrev pub IsLoadReport : Instance → Claim → List ℕ → Type 0
IsLoadReport it claim text = IfSome (best_of claim) (λ plan. text ≡ load_report it plan)
