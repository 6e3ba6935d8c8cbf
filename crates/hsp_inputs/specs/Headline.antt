-- The headline on one page: which inputs are accepted, and which instance they define. These are relations between
-- texts and what they hold. headline_laws.rt ties them to what inputs are read as. What plans show of the instance,
-- and that runs answer wherever one is defined, is in hsp_runs/specs/Shown.antt.
--
-- Read before it: handles in hsp_names/specs/Handle.antt (RFC 3651, section 2), value lists and site records in
-- hsp_record/specs (RFC 3651, sections 3.1 and 3.2.2), the responsible server in hsp_hash/specs/Place.antt (RFC 3652,
-- section 3.1.3), how documents and tables state rows in Stated.antt.
use Rattle.std.specs.Prelude.{◌≡◌, ◌≢◌, ◌≤◌, ◌==◌, ◌&&◌, ◌↔◌, IsUtf8, true, ℕ, List, [], ◌∷◌, codes, decimal, Option}
use Rattle.std.specs.Prelude.{Some, None, length, map, option_map}
use Rattle.std.specs.List.{AllByRecursion, Contains, IsDistinct, slice_get}
use Rattle.std.specs.Str.{bytes_eq}
use Rattle.toml.specs.Data.{Members, get_member}
use Rattle.toml.specs.Parse.{parse_document}
use Rattle.hsp_text.specs.Name.{is_name}
use Rattle.hsp_text.specs.declared.limits.TheConstants.{GREATEST_CAPACITY, GREATEST_COST, GREATEST_COUNT}
use Rattle.hsp_text.specs.declared.limits.TheConstants.{MOST_CAPACITY_ROWS, MOST_DEMAND_ROWS}
use Rattle.hsp_text.specs.declared.limits.TheConstants.{MOST_HOSTS, MOST_REGIONS, MOST_SERVERS, MOST_SITES}
use Rattle.hsp_names.specs.Handle.{IsHandle}
use Rattle.hsp_hash.specs.Place.{server_place}
use Rattle.hsp_record.specs.Values.{HandleValue}
use Rattle.hsp_tables.specs.Capacities.{CapacityEntry}
use Rattle.hsp_tables.specs.Costs.{CostEntry, most_cost_regions, most_cost_rows}
use Rattle.hsp_tables.specs.declared.limits.Limits.{Limits}
use Rattle.hsp_instance.specs.Instance.{Host, Instance, IsAscending, Row, Site, SiteServer, number_at, servers_of}
use Rattle.hsp_instance.specs.declared.arc.Arc.{Arc}
use Rattle.hsp_inputs.specs.Limits.{limits_of}
use Rattle.hsp_inputs.specs.Stated.{AreFew, AreValues, HasKeys, IsTable, AreTablesAt, StatesHost, StatesSite}
use Rattle.hsp_inputs.specs.declared.inputs.Inputs.{Inputs}

-- ---- settings

-- a TOML document, as the `toml` crate reads it, lists sites and hosts: no two of one name or of one address
pub record AreSettings (values : Option (List HandleValue)) (text : List ℕ) (sites : List Site)
    (hosts : List Host) : Type 0 where
  pub utf8 : IsUtf8 text
  pub document : Members
  pub read : parse_document text ≡ Some document
  pub keys : HasKeys (codes "site" ∷ codes "host" ∷ []) document
  pub site : AreTablesAt (StatesSite values) (get_member (codes "site") document) sites
  pub few_sites : length sites ≤ MOST_SITES
  pub few_servers : servers_of sites ≤ MOST_SERVERS
  pub names : IsDistinct (λ (a b : Site). bytes_eq a.name b.name) sites
  pub host : AreTablesAt StatesHost (get_member (codes "host") document) hosts
  pub few_hosts : length hosts ≤ MOST_HOSTS
  pub addresses : IsDistinct (λ (a b : Host). bytes_eq a.address b.address) hosts

-- ---- tables: comma-separated values (RFC 4180), as the `csv` crate reads them

abbrev pub IsDemand : Row → Type 0
IsDemand row =
    (is_name row.region ≡ true)
    × ((authority : List ℕ) × (local : List ℕ) × IsHandle row.handle authority local)
    × (row.count ≤ GREATEST_COUNT)

-- a count of queries for a handle comes from a region
abbrev pub AreDemand : List ℕ → List Row → Type 0
AreDemand text rows =
    IsTable (codes "region" ∷ codes "handle" ∷ codes "count" ∷ []) MOST_DEMAND_ROWS
    (λ (row : Row). row.region ∷ row.handle ∷ decimal row.count ∷ []) IsDemand
    (λ (a b : Row). bytes_eq a.region b.region && bytes_eq a.handle b.handle) text rows
    × AreFew MOST_REGIONS (map (λ (row : Row). row.region) rows)

-- the rows are those of the table of demand, or there are none where it is not given
abbrev pub AreGiven : Option (List ℕ) → List Row → Type 0
AreGiven (Some text) rows = AreDemand text rows
AreGiven None rows = rows ≡ []

abbrev pub IsCost : List Site → CostEntry → Type 0
IsCost sites row =
    (is_name row.region ≡ true) × ((site : Site) × Contains sites site × (site.name ≡ row.site))
    × (row.cost ≤ GREATEST_COST)

-- a query from a region costs so much at a site
abbrev pub AreCosts : Limits → List Site → List ℕ → List CostEntry → Type 0
AreCosts limits sites text rows =
    IsTable (codes "region" ∷ codes "site" ∷ codes "cost" ∷ []) (most_cost_rows limits)
    (λ (row : CostEntry). row.region ∷ row.site ∷ decimal row.cost ∷ []) (IsCost sites)
    (λ (a b : CostEntry). bytes_eq a.region b.region && bytes_eq a.site b.site) text rows
    × AreFew (most_cost_regions limits) (map (λ (row : CostEntry). row.region) rows)

abbrev pub IsCapacity : List Site → CapacityEntry → Type 0
IsCapacity sites row =
    (site : Site) × (own : SiteServer) × Contains sites site × (site.name ≡ row.site)
    × Contains site.servers own × (own.id ≡ row.server_id) × (row.capacity ≤ GREATEST_CAPACITY)

-- the server of an identifier has a capacity at a site
abbrev pub AreCapacities : List Site → List ℕ → List CapacityEntry → Type 0
AreCapacities sites text rows =
    IsTable (codes "site" ∷ codes "server_id" ∷ codes "capacity" ∷ []) MOST_CAPACITY_ROWS
    (λ (row : CapacityEntry). row.site ∷ decimal row.server_id ∷ decimal row.capacity ∷ []) (IsCapacity sites)
    (λ (a b : CapacityEntry). bytes_eq a.site b.site && (a.server_id == b.server_id)) text rows

-- ---- servers and arcs

-- the host of an address, or none where no host has it
abbrev pub StandsOn : List Host → List ℕ → Option ℕ → Type 0
StandsOn hosts address (Some n) =
    (host : Host) × (slice_get hosts n ≡ Some host) × (host.address ≡ address)
StandsOn hosts address None = AllByRecursion (λ (host : Host). host.address ≢ address) hosts

-- the servers of the sites, one site after the other: each has the capacity of its site's name and its
-- identifier, and stands on the host of its address
pub record AreServers (capacities : List CapacityEntry) (it : Instance) : Type 0 where
  pub count : length it.servers ≡ servers_of it.sites
  pub each : (n place : ℕ) (site : Site) (own : SiteServer)
      → slice_get it.sites n ≡ Some site → slice_get site.servers place ≡ Some own
      → (capacity : ℕ) × (host : Option ℕ)
      × (slice_get it.servers (number_at it.sites n place)
      ≡ Some (record { site = n; place = place; id = own.id; capacity = capacity; host = host }))
      × Contains capacities (record { site = site.name; server_id = own.id; capacity = capacity })
      × StandsOn it.hosts own.address host

-- a row may go to a site where its region has a cost, to the server there that is responsible for its handle
pub record IsArc (costs : List CostEntry) (sites : List Site) (row : Row) (arc : Arc) : Type 0 where
  pub site : Site
  pub is_site : slice_get sites arc.site ≡ Some site
  pub cost : Contains costs (record { region = row.region; site = site.name; cost = arc.cost })
  pub server : arc.server
      ≡ number_at sites arc.site (server_place site.option row.handle (length site.servers))

-- the arcs of each row are all of these, in the order of the sites
pub record AreArcs (costs : List CostEntry) (it : Instance) : Type 0 where
  pub count : length it.arcs ≡ length it.rows
  pub each : (i : ℕ) (row : Row) (arcs : List Arc)
      → slice_get it.rows i ≡ Some row → slice_get it.arcs i ≡ Some arcs
      → IsAscending arcs × ((arc : Arc) → Contains arcs arc ↔ IsArc costs it.sites row arc)

-- ---- the instance

-- the five inputs define the instance, so they are accepted
pub record Defines (inputs : Inputs) (it : Instance) : Type 0 where
  pub values : Option (List HandleValue)
  pub are_values : AreValues (option_map (λ octets. octets.items) inputs.values) values
  pub settings : AreSettings values inputs.settings.items it.sites it.hosts
  pub demand : AreGiven (option_map (λ octets. octets.items) inputs.demand) it.rows
  pub costs : List CostEntry
  pub are_costs : AreCosts (limits_of inputs) it.sites inputs.costs.items costs
  pub capacities : List CapacityEntry
  pub are_capacities : AreCapacities it.sites inputs.capacity.items capacities
  pub servers : AreServers capacities it
  pub arcs : AreArcs costs it
