-- The servers that a row's queries pay least at, by the prices of a certificate: the arcs whose reduced cost is 0,
-- where the row's own price is the least that it pays (Network Flows, sections 9.4 and 2.4). Rows of one region with
-- the same several least servers are one class.
use Rattle.std.specs.Prelude.{ℕ, ◌+◌, ◌&&◌, Bool, List, [], ◌∷◌, filter, map, nat_le, slice_index, Option, Some, None}
use Rattle.std.specs.List.{list_all}
use Rattle.std.specs.Str.{bytes_eq}
use Rattle.hsp_instance.specs.Building.{arcs_from}
use Rattle.hsp_instance.specs.Instance.{Row}
use Rattle.hsp_instance.specs.declared.arc.Arc.{Arc}
use Rattle.hsp_check.specs.ArcFlows.{host_in}
use Rattle.hsp_check.specs.Prices.{at_host}
use Rattle.hsp_prices.specs.Rows.{Service}
use Rattle.hsp_price_text.specs.Claim.{Best, Class}

-- the arcs of a row
abbrev pub arcs_of : Service → Row → List Arc
arcs_of at row = arcs_from at.costs row 0 0 at.sites

-- the host that a server stands on, if it stands on one
abbrev pub host_at : Service → ℕ → Option ℕ
host_at at j = host_in (map (λ server. server.host) at.servers) j

-- what a query to the server pays beside the arc's cost: the server's price and its host's
abbrev pub price_at : Service → Best → ℕ → ℕ
price_at at plan j = slice_index plan.server_prices j + at_host (host_at at j) (λ h. slice_index plan.host_prices h)

-- what a query pays over an arc: its cost and these prices
abbrev pub pay_over : Service → Best → Arc → ℕ
pay_over at plan arc = arc.cost + price_at at plan arc.server

-- a query pays no less over any of the arcs
abbrev pub is_least : (Arc → ℕ) → List Arc → Arc → Bool
is_least pay arcs arc = list_all (λ other. nat_le (pay arc) (pay other)) arcs

-- the arcs over which a query pays least, in their order
abbrev pub least_arcs : (Arc → ℕ) → List Arc → List Arc
least_arcs pay arcs = filter (is_least pay arcs) arcs

-- those of a row
abbrev pub least_of : Service → Best → Row → List Arc
least_of at plan row = least_arcs (pay_over at plan) (arcs_of at row)

abbrev pub servers_of : List Arc → List ℕ
servers_of arcs = map (λ arc. arc.server) arcs

-- the only arc, where there is only one
abbrev pub only_arc : List Arc → Option Arc
only_arc (arc ∷ []) = Some arc
only_arc arcs = None

-- a row is of a class: it is of its region, and has its servers as least servers
abbrev pub is_of : Service → Best → Class → Row → Bool
is_of at plan class row =
    bytes_eq class.region row.region && bytes_eq class.servers (servers_of (least_of at plan row))
