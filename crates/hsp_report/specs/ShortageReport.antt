-- The rows that ask for more than all that they can reach, and the servers that they reach.
use Rattle.std.specs.Prelude.{◌≡◌, ◌-◌, ◌++◌, ◌∷◌, [], ℕ, List, codes, IfSome}
use Rattle.std.specs.List.{flat_map}
use Rattle.hsp_cert.specs.Certificate.{Claim, Short, short_of}
use Rattle.hsp_instance.specs.Instance.{Instance}
use Rattle.hsp_check.specs.Instance.{network_of}
use Rattle.hsp_check.specs.Short.{capacity_of, demand_of, reached}
use Rattle.hsp_check.specs.Verdict.{is_one_of}
use Rattle.hsp_report.specs.Columns.{aligned, column_line, difference_line}
use Rattle.hsp_report.specs.Numbered.{row_at, server_at, site_name}

abbrev pub missing_line : ℕ → ℕ → List ℕ
missing_line demand capacity = difference_line (codes "short") demand capacity (demand - capacity)

-- what the rows ask for, without what they can reach
abbrev pub short_line : Instance → Short → List ℕ
short_line it set =
    let n = network_of it in
    missing_line (demand_of n (is_one_of set.rows)) (capacity_of n (is_one_of set.rows))

abbrev pub rows_header : List ℕ
rows_header = codes " row   count region" ++ 10 ∷ []

abbrev pub row_line : Instance → ℕ → List ℕ
row_line it i =
    let r = row_at it i in
    column_line (aligned 4 i ∷ aligned 7 r.count ∷ []) r.region

abbrev pub row_lines : Instance → List ℕ → List ℕ
row_lines it rows = flat_map (row_line it) rows

abbrev pub servers_header : List ℕ
servers_header = codes "place     server   capacity site" ++ 10 ∷ []

abbrev pub reached_line : Instance → ℕ → List ℕ
reached_line it j =
    let s = server_at it j in
    column_line
    (aligned 5 s.place ∷ aligned 10 s.id ∷ aligned 10 s.capacity ∷ [])
    (site_name it s.site)

abbrev pub reached_lines : Instance → List ℕ → List ℕ
reached_lines it servers = flat_map (reached_line it) servers

-- each server that the rows reach stands once, in ascending order
abbrev pub shortage_report : Instance → Short → List ℕ
shortage_report it set =
    let servers = reached (network_of it) (is_one_of set.rows) in
    short_line it set
    ++ (rows_header ++ (row_lines it set.rows ++ (servers_header ++ reached_lines it servers)))

-- the report of a certificate that shows a short set
abbrev pub IsShortageReport : Instance → Claim → List ℕ → Type 0
IsShortageReport it claim text = IfSome (short_of claim) (λ set. text ≡ shortage_report it set)
