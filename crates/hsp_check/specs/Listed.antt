-- The prices of a certificate as they are listed.
use Rattle.std.specs.Prelude.{◌≡◌, ℕ, ◌+◌, ◌<◌, ◌≤◌, List, All, slice_index}
use Rattle.hsp_check.specs.declared.prices.PriceLists.{PriceLists}
use Rattle.hsp_check.specs.declared.sums.ArcFlow.{ArcFlow}
use Rattle.hsp_check.specs.Prices.{at_host}
use Rattle.hsp_check.specs.ArcFlows.{host_in}

-- what a query to the server pays beside the arc's cost
abbrev pub listed_at : PriceLists → ℕ → ℕ
listed_at prices j =
    slice_index prices.servers.now j + at_host (host_in prices.server_hosts.now j) (λ h. slice_index prices.hosts.now h)

-- no row pays more than an arc's cost and prices
abbrev pub AreLow : PriceLists → List ArcFlow → Type 0
AreLow prices arc_flows =
    All (λ l. slice_index prices.rows.now l.arc.row ≤ l.arc.cost + listed_at prices l.arc.server) arc_flows

-- and exactly that where it uses the arc
abbrev pub AreTight : PriceLists → List ArcFlow → Type 0
AreTight prices arc_flows =
    All (λ l. 0 < l.flow → slice_index prices.rows.now l.arc.row ≡ l.arc.cost + listed_at prices l.arc.server) arc_flows
