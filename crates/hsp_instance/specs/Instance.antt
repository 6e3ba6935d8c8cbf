-- An instance: rows of demand, sites and their servers, hosts, and the arcs by which the queries of a row may go to a
-- site.
use Rattle.std.specs.Prelude.{◌≡◌, ◌≤◌, ◌<◌, ◌+◌, ◌^◌, ◌==◌, ◌&&◌, ⊤, Bool, true, ℕ, List, [], ◌∷◌, length, map, take}
use Rattle.std.specs.Prelude.{Option, None, Some, Ok}
use Rattle.std.specs.List.{AllByRecursion, IsDistinct, slice_get}
use Rattle.std.specs.Str.{bytes_eq}
use Rattle.hsp_hash.specs.declared.option.HashOption.{HashOption}
use Rattle.hsp_names.specs.Handle.{handle_in}
use Rattle.hsp_tables.specs.Table.{first_seen}
use Rattle.hsp_text.specs.Name.{is_name}
use Rattle.hsp_text.specs.declared.limits.TheConstants.{GREATEST_CAPACITY, GREATEST_COST, GREATEST_COUNT}
use Rattle.hsp_text.specs.declared.limits.TheConstants.{GREATEST_LIMIT, MOST_DEMAND_ROWS, MOST_HOSTS, MOST_REGIONS}
use Rattle.hsp_text.specs.declared.limits.TheConstants.{MOST_SERVERS, MOST_SITES}
use Rattle.hsp_instance.specs.declared.arc.Arc.{Arc}

-- `count` queries for a handle, from a region
pub record Row : Type 0 where
  pub region : List ℕ
  pub handle : List ℕ
  pub count : ℕ

-- a server of a site, by the site's record
pub record SiteServer : Type 0 where
  pub id : ℕ
  pub address : List ℕ

-- a site: its name, and its record's hash option and servers
pub record Site : Type 0 where
  pub name : List ℕ
  pub option : HashOption
  pub servers : List SiteServer

-- a server of an instance: the number of its site, its place there, its identifier, how many queries it takes, and the
-- number of the host that it stands on
pub record Server : Type 0 where
  pub site : ℕ
  pub place : ℕ
  pub id : ℕ
  pub capacity : ℕ
  pub host : Option ℕ

-- a host: its address, and how many queries its servers take together
pub record Host : Type 0 where
  pub address : List ℕ
  pub limit : ℕ

-- an instance; each row has a list of arcs
pub record Instance : Type 0 where
  pub rows : List Row
  pub sites : List Site
  pub servers : List Server
  pub hosts : List Host
  pub arcs : List (List Arc)

-- a row is of the region and the handle
abbrev pub has_keys : List ℕ → List ℕ → Row → Bool
has_keys region handle row = bytes_eq region row.region && bytes_eq handle row.handle

-- two rows have the same region and handle
abbrev pub same_keys : Row → Row → Bool
same_keys a b = has_keys a.region a.handle b

-- the number of servers of sites
abbrev pub servers_of : List Site → ℕ
servers_of [] = 0
servers_of (site ∷ sites) = length site.servers + servers_of sites

-- a site has a server
abbrev pub HasServer : Site → Type 0
HasServer site = 0 < length site.servers

-- a server of a site has an identifier of 32 bits and an address of 16 octets
pub record IsSiteServer (server : SiteServer) : Type 0 where
  pub id : server.id < 2 ^ 32
  pub address : length server.address ≡ 16

-- two servers have the same identifier
abbrev pub same_id : SiteServer → SiteServer → Bool
same_id a b = b.id == a.id

-- a site has a name, and no two of its servers have one identifier
pub record IsSite (site : Site) : Type 0 where
  pub name : is_name site.name ≡ true
  pub servers : AllByRecursion IsSiteServer site.servers
  pub apart : IsDistinct same_id site.servers

-- two sites have the same name
abbrev pub same_name : Site → Site → Bool
same_name a b = bytes_eq a.name b.name

-- sites within the limits, each with a server, and no two with one name
pub record AreSites (sites : List Site) : Type 0 where
  pub few : length sites ≤ MOST_SITES
  pub each : AllByRecursion HasServer sites
  pub servers : servers_of sites ≤ MOST_SERVERS
  pub are : AllByRecursion IsSite sites
  pub apart : IsDistinct same_name sites

abbrev pub IsCounted : Row → Type 0
IsCounted row = row.count ≤ GREATEST_COUNT

-- the region of a row is a name, and its handle a handle
pub record IsNamed (row : Row) : Type 0 where
  pub region : is_name row.region ≡ true
  pub handle : handle_in row.handle ≡ Ok row.handle

-- the regions of rows, each once, in the order in which they are first seen
abbrev pub regions_of : List Row → List (List ℕ)
regions_of rows = first_seen (map (λ (row : Row). row.region) rows)

-- rows within the limits, no two with one region and handle
pub record AreRows (rows : List Row) : Type 0 where
  pub few : length rows ≤ MOST_DEMAND_ROWS
  pub each : AllByRecursion IsCounted rows
  pub apart : IsDistinct same_keys rows
  pub named : AllByRecursion IsNamed rows
  pub regions : length (regions_of rows) ≤ MOST_REGIONS

abbrev pub IsLimited : Host → Type 0
IsLimited host = host.limit ≤ GREATEST_LIMIT

-- the address of a host has 16 octets
abbrev pub IsAddressed : Host → Type 0
IsAddressed host = length host.address ≡ 16

-- two hosts have the same address
abbrev pub same_address : Host → Host → Bool
same_address a b = bytes_eq a.address b.address

-- hosts within the limits, no two with one address
pub record AreHosts (hosts : List Host) : Type 0 where
  pub few : length hosts ≤ MOST_HOSTS
  pub each : AllByRecursion IsLimited hosts
  pub addressed : AllByRecursion IsAddressed hosts
  pub apart : IsDistinct same_address hosts

-- the host that a server stands on is one of that many
abbrev pub IsHostOf : ℕ → Option ℕ → Type 0
IsHostOf hosts None = ⊤
IsHostOf hosts (Some host) = host < hosts

-- a server stands at a place of a site, with the identifier that the site's record has there
pub record StandsAt (sites : List Site) (server : Server) : Type 0 where
  pub site : Site
  pub own : SiteServer
  pub is_site : slice_get sites server.site ≡ Some site
  pub is_own : slice_get site.servers server.place ≡ Some own
  pub same_id : server.id ≡ own.id

-- a server within the limits, at a place of a site and on no host or a host that is there
pub record IsServer (sites : List Site) (hosts : ℕ) (server : Server) : Type 0 where
  pub place : StandsAt sites server
  pub capacity : server.capacity ≤ GREATEST_CAPACITY
  pub host : IsHostOf hosts server.host

-- the number of the server at a place of site `n`: the servers of the sites before it come first
abbrev pub number_at : List Site → ℕ → ℕ → ℕ
number_at sites n place = servers_of (take n sites) + place

-- the server at a place of site `n` stands at its number
pub record IsNumbered (sites : List Site) (servers : List Server) (n place : ℕ) : Type 0 where
  pub server : Server
  pub is_server : slice_get servers (number_at sites n place) ≡ Some server
  pub same_site : server.site ≡ n
  pub same_place : server.place ≡ place

-- servers within the limits: those of all sites, by site and place
pub record AreServers (sites : List Site) (hosts : ℕ) (servers : List Server) : Type 0 where
  pub few : length servers ≤ MOST_SERVERS
  pub each : AllByRecursion (IsServer sites hosts) servers
  pub count : length servers ≡ servers_of sites
  pub at_place : (n place : ℕ) (site : Site) → slice_get sites n ≡ Some site → place < length site.servers
      → IsNumbered sites servers n place
  pub number : (i : ℕ) (server : Server) → slice_get servers i ≡ Some server
      → i ≡ number_at sites server.site server.place

-- an arc within the limits, to a server of its site
pub record IsArc (servers : List Server) (arc : Arc) : Type 0 where
  pub server : Server
  pub is_server : slice_get servers arc.server ≡ Some server
  pub same_site : arc.site ≡ server.site
  pub cost : arc.cost ≤ GREATEST_COST

-- in ascending order of the sites, each site at most once
abbrev pub IsAscending : List Arc → Type 0
IsAscending [] = ⊤
IsAscending (arc ∷ arcs) = AllByRecursion (λ (later : Arc). arc.site < later.site) arcs × IsAscending arcs

-- the arcs of a row
pub record AreArcs (servers : List Server) (arcs : List Arc) : Type 0 where
  pub few : length arcs ≤ MOST_SITES
  pub each : AllByRecursion (IsArc servers) arcs
  pub ascending : IsAscending arcs

-- an instance within the limits: a list of arcs for each row
pub record IsInstance (it : Instance) : Type 0 where
  pub rows : AreRows it.rows
  pub sites : AreSites it.sites
  pub hosts : AreHosts it.hosts
  pub servers : AreServers it.sites (length it.hosts) it.servers
  pub one_list_a_row : length it.arcs ≡ length it.rows
  pub arcs : AllByRecursion (AreArcs it.servers) it.arcs

-- the server at a place of a site, if they are there
abbrev pub own_at : ℕ → Option Site → Option SiteServer
own_at place None = None
own_at place (Some site) = slice_get site.servers place

abbrev pub server_in : List Site → ℕ → ℕ → Option SiteServer
server_in sites site place = own_at place (slice_get sites site)
