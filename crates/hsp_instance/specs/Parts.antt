-- What the instance of inputs is, part by part: each server by its site and place, each arc by its row and site.
use Rattle.std.specs.Prelude.{◌≡◌, ℕ, List, length, map, Some, Ok}
use Rattle.std.specs.List.{AllByRecursion, position_from, slice_get}
use Rattle.hsp_hash.specs.Place.{server_place}
use Rattle.hsp_tables.specs.Capacities.{CapacityEntry}
use Rattle.hsp_tables.specs.Costs.{CostEntry}
use Rattle.hsp_instance.specs.Building.{AreSitesOf, Inputs, IsBuilt, capacity_of, cost_of, host_of_entry, is_at, row_of}
use Rattle.hsp_instance.specs.Instance.{Host, Instance, Row, Server, Site, SiteServer, number_at, servers_of}
use Rattle.hsp_instance.specs.declared.arc.Arc.{Arc}

-- the server of an identifier and address at a place of site `n`: its capacity is that of the row of the site's name
-- and its identifier, and it stands on the host of its address
pub record IsServerOf (capacities : List CapacityEntry) (hosts : List Host) (n : ℕ) (name : List ℕ) (at : ℕ)
    (own : SiteServer) (server : Server) : Type 0 where
  pub site : server.site ≡ n
  pub place : server.place ≡ at
  pub id : server.id ≡ own.id
  pub capacity : capacity_of capacities name own.id ≡ Some server.capacity
  pub host : server.host ≡ position_from (is_at own.address) 0 hosts

-- the server at a place of site `n` stands at its number
pub record HasServerAt (inputs : Inputs) (it : Instance) (n : ℕ) (site : Site) (place : ℕ) (own : SiteServer) :
    Type 0 where
  pub server : Server
  pub is_server : slice_get it.servers (number_at it.sites n place) ≡ Some server
  pub is_of : IsServerOf inputs.capacities it.hosts n site.name place own server

-- the number of the server of site `n` that is responsible for a handle
abbrev pub responsible_at : List Site → ℕ → Site → List ℕ → ℕ
responsible_at sites n site handle = number_at sites n (server_place site.option handle (length site.servers))

-- an arc of a row is to a site where its region has a cost, at the server there that is responsible for its handle
pub record IsArcOf (costs : List CostEntry) (sites : List Site) (row : Row) (arc : Arc) : Type 0 where
  pub site : Site
  pub is_site : slice_get sites arc.site ≡ Some site
  pub cost : cost_of costs row.region site.name ≡ Some arc.cost
  pub server : arc.server ≡ responsible_at sites arc.site site row.handle

abbrev pub IsAmong : List Arc → Arc → Type 0
IsAmong arcs arc = (i : ℕ) × (slice_get arcs i ≡ Some arc)

-- the arcs of a row: those, and one to each site where its region has a cost
pub record AreArcsOf (costs : List CostEntry) (sites : List Site) (row : Row) (arcs : List Arc) : Type 0 where
  pub each : AllByRecursion (IsArcOf costs sites row) arcs
  pub all : (n : ℕ) (site : Site) (cost : ℕ) → slice_get sites n ≡ Some site
      → cost_of costs row.region site.name ≡ Some cost
      → IsAmong arcs (record { site = n; server = responsible_at sites n site row.handle; cost = cost })

-- the parts of the instance of inputs
pub record HasPartsOf (inputs : Inputs) (it : Instance) : Type 0 where
  pub rows : it.rows ≡ map row_of inputs.demand
  pub sites : AreSitesOf inputs.settings inputs.values (Ok it.sites)
  pub hosts : it.hosts ≡ map host_of_entry inputs.settings.hosts
  pub server_count : length it.servers ≡ servers_of it.sites
  pub servers : (n place : ℕ) (site : Site) (own : SiteServer) → slice_get it.sites n ≡ Some site
      → slice_get site.servers place ≡ Some own → HasServerAt inputs it n site place own
  pub arcs : (i : ℕ) (row : Row) → slice_get it.rows i ≡ Some row
      → (arcs : List Arc) × (slice_get it.arcs i ≡ Some arcs) × AreArcsOf inputs.costs it.sites row arcs

abbrev pub BuiltHasItsParts : Type 0
BuiltHasItsParts = (inputs : Inputs) (it : Instance) → IsBuilt inputs (Ok it) → HasPartsOf inputs it
