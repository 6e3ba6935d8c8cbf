-- The instance of five inputs, or their first fault: settings, values, demand, costs and capacities.
use Rattle.std.specs.Prelude.{◌≡◌, ◌≢◌, ◌+◌, ◌==◌, ◌&&◌, ◌||◌, ⊤, Bool, false, ℕ, List, [], ◌∷◌, ◌++◌, codes, is_some}
use Rattle.std.specs.Prelude.{length, map, nat_lt, Option, Some, None, option_map, Result, Ok, Err, if◌then◌else◌}
use Rattle.std.specs.List.{find, list_any, position_from}
use Rattle.std.specs.Str.{bytes_eq}
use Rattle.hsp_hash.specs.Option.{option_of}
use Rattle.hsp_hash.specs.Place.{server_place}
use Rattle.hsp_record.specs.Fields.{Means}
use Rattle.hsp_record.specs.Site as records
use Rattle.hsp_record.specs.Site.{site_format}
use Rattle.hsp_record.specs.Values.{HandleValue}
use Rattle.hsp_record.specs.declared.fault.RecordFault.{RecordFault}
use Rattle.hsp_record.specs.declared.fault.RecordFault.TheVariants as record_fault
use Rattle.hsp_tables.specs.Capacities.{CapacityEntry}
use Rattle.hsp_tables.specs.Costs.{CostEntry}
use Rattle.hsp_tables.specs.Demand.{DemandEntry}
use Rattle.hsp_tables.specs.Settings.{HostEntry, SettingsEntries, SiteEntry, SiteSource, index, octets}
use Rattle.hsp_text.specs.Answers.{◌>>=◌, Then, or_fault}
use Rattle.hsp_text.specs.declared.limits.TheConstants.{MOST_SERVERS}
use Rattle.hsp_instance.specs.Instance.{Host, Instance, Row, Server, Site, SiteServer, servers_of}
use Rattle.hsp_instance.specs.declared.arc.Arc.{Arc}
use Rattle.hsp_instance.specs.declared.fault.BuildFault.{BuildFault}
use Rattle.hsp_instance.specs.declared.fault.BuildFault.TheVariants.{BadHashOption, BadRecord, NoCapacity, NoServer}
use Rattle.hsp_instance.specs.declared.fault.BuildFault.TheVariants.{NoValue, NotSiteValue, ServerIdTwice}
use Rattle.hsp_instance.specs.declared.fault.BuildFault.TheVariants.{TooManyServers, UnknownServer, UnknownSite}
use Rattle.hsp_instance.specs.declared.fault.Table.TheVariants.{Capacity, Costs}

-- ---- sites

-- the octets of the value of an index, which is of the type HS_SITE
abbrev pub site_value : ℕ → Option HandleValue → Result (List ℕ) BuildFault
site_value n None = Err (NoValue n)
site_value n (Some value) =
    if bytes_eq value.type_octets (codes "HS_SITE") then Ok value.octets else Err (NotSiteValue n)

-- the value of an index, if there is a list that has it
abbrev pub value_of : Option (List HandleValue) → ℕ → Option HandleValue
value_of None i = None
value_of (Some values) i = find (λ v. v.index == i) values

-- the octets of site `n`
abbrev pub site_octets : Option (List HandleValue) → ℕ → SiteSource → Result (List ℕ) BuildFault
site_octets values n (octets bytes) = Ok bytes
site_octets values n (index i) = site_value n (value_of values i)

-- the reading of octets as a site record: the record that all of them spell, or what is wrong with them
pub record IsReading (bytes : List ℕ) (reading : Result records.Site RecordFault) : Type 0 where
  pub means : Means site_format bytes reading
  pub not_memory : reading ≢ Err record_fault.OutOfMemory

-- a server of a record, by its identifier and address
abbrev pub server_of_record : records.Server → SiteServer
server_of_record server = record { id = server.id; address = server.address }

-- an identifier is one of those of servers
abbrev pub has_id : ℕ → List SiteServer → Bool
has_id id servers = list_any (λ (server : SiteServer). server.id == id) servers

-- two of the servers have one identifier
abbrev pub has_id_twice : List SiteServer → Bool
has_id_twice [] = false
has_id_twice (server ∷ servers) = has_id server.id servers || has_id_twice servers

-- site `n` of the name, option and servers, after sites of `before` servers
abbrev pub checked_site : ℕ → ℕ → Site → Result Site BuildFault
checked_site n before site =
    if length site.servers == 0 then Err (NoServer n)
    else if has_id_twice site.servers then Err (ServerIdTwice n)
    else if nat_lt MOST_SERVERS (before + length site.servers) then Err TooManyServers
    else Ok site

-- site `n` by the reading of its octets
abbrev pub site_of_reading : ℕ → ℕ → List ℕ → Result records.Site RecordFault → Result Site BuildFault
site_of_reading n before name (Err fault) = Err (BadRecord n fault)
site_of_reading n before name (Ok r) = or_fault (BadHashOption n) (option_of r.option) >>= λ option.
    checked_site n before (record { name = name; option = option; servers = map server_of_record r.servers })

-- what site octets are, or its first fault
abbrev pub IsSiteIn : ℕ → ℕ → List ℕ → List ℕ → Result Site BuildFault → Type 0
IsSiteIn n before name bytes answer =
    (reading : Result records.Site RecordFault) × IsReading bytes reading
    × (answer ≡ site_of_reading n before name reading)

-- the same of the octets of a source, or that it has none
abbrev pub IsSiteOf : ℕ → ℕ → List ℕ → Result (List ℕ) BuildFault → Result Site BuildFault → Type 0
IsSiteOf n before name (Err fault) answer = answer ≡ Err fault
IsSiteOf n before name (Ok bytes) answer = IsSiteIn n before name bytes answer

-- the site of an entry after the sites before it, or its first fault
abbrev pub IsNextSite : Option (List HandleValue) → List Site → SiteEntry → Result Site BuildFault → Type 0
IsNextSite values earlier entry answer =
    IsSiteOf (length earlier) (servers_of earlier) entry.name (site_octets values (length earlier) entry.source) answer

-- the sites of entries in turn, after those before them, or the first fault
abbrev pub AreSitesAfter : Option (List HandleValue) → List Site → List SiteEntry → Result (List Site) BuildFault
    → Type 0
AreSitesAfter values earlier [] answer = answer ≡ Ok earlier
AreSitesAfter values earlier (entry ∷ more) answer =
    Then (IsNextSite values earlier entry) (λ site rest. AreSitesAfter values (earlier ++ site ∷ []) more rest) answer

-- the sites of settings and values, or the first fault
abbrev pub AreSitesOf : SettingsEntries → Option (List HandleValue) → Result (List Site) BuildFault → Type 0
AreSitesOf settings values answer = AreSitesAfter values [] settings.sites answer

-- ---- tables

-- a site has the name
abbrev pub is_named : List ℕ → Site → Bool
is_named name site = bytes_eq name site.name

-- a row of the costs whose site is not there, the first of them from row `n` on
abbrev pub cost_fault : List Site → ℕ → List CostEntry → Option BuildFault
cost_fault sites n [] = None
cost_fault sites n (row ∷ rows) =
    if is_some (find (is_named row.site) sites) then cost_fault sites (n + 1) rows else Some (UnknownSite Costs n)

-- the fault of row `n` of the capacities, by the site that its name finds
abbrev pub capacity_row_fault : ℕ → ℕ → Option Site → Option BuildFault
capacity_row_fault n id None = Some (UnknownSite Capacity n)
capacity_row_fault n id (Some site) = if has_id id site.servers then None else Some (UnknownServer n)

abbrev pub or_else : {A : Type 0} → Option A → Option A → Option A
or_else None other = other
or_else (Some x) other = Some x

-- the first fault of the capacities from row `n` on
abbrev pub capacity_fault : List Site → ℕ → List CapacityEntry → Option BuildFault
capacity_fault sites n [] = None
capacity_fault sites n (row ∷ rows) =
    or_else (capacity_row_fault n row.server_id (find (is_named row.site) sites)) (capacity_fault sites (n + 1) rows)

-- ---- servers

-- a row is of the site of a name and of the server of an identifier
abbrev pub is_capacity_of : List ℕ → ℕ → CapacityEntry → Bool
is_capacity_of name id row = bytes_eq row.site name && (row.server_id == id)

-- the capacity of a site's name and an identifier
abbrev pub capacity_of : List CapacityEntry → List ℕ → ℕ → Option ℕ
capacity_of rows name id = option_map (λ (row : CapacityEntry). row.capacity) (find (is_capacity_of name id) rows)

-- a host has the address
abbrev pub is_at : List ℕ → Host → Bool
is_at address host = bytes_eq host.address address

-- the server at a place of site `n`, or that it has no capacity
abbrev pub server_at : List CapacityEntry → List Host → ℕ → List ℕ → ℕ → SiteServer → Result Server BuildFault
server_at rows hosts n name place own = or_fault (NoCapacity n own.id) (capacity_of rows name own.id) >>= λ capacity.
    Ok (record {
      site = n;
      place = place;
      id = own.id;
      capacity = capacity;
      host = position_from (is_at own.address) 0 hosts;
    })

-- the servers of site `n` from a place on, after those before them, or the first that has no capacity
abbrev pub servers_at : List CapacityEntry → List Host → ℕ → List ℕ → ℕ → List Server → List SiteServer
    → Result (List Server) BuildFault
servers_at rows hosts n name place earlier [] = Ok earlier
servers_at rows hosts n name place earlier (own ∷ more) =
    server_at rows hosts n name place own >>= λ server.
    servers_at rows hosts n name (place + 1) (earlier ++ server ∷ []) more

-- the servers of site `n`, after those before them, or the first that has no capacity
abbrev pub servers_with : List CapacityEntry → List Host → ℕ → List Server → Site → Result (List Server) BuildFault
servers_with rows hosts n earlier site = servers_at rows hosts n site.name 0 earlier site.servers

-- the same of sites from site `n` on
abbrev pub servers_from : List CapacityEntry → List Host → ℕ → List Server → List Site → Result (List Server) BuildFault
servers_from rows hosts n earlier [] = Ok earlier
servers_from rows hosts n earlier (site ∷ more) =
    servers_with rows hosts n earlier site >>= λ servers. servers_from rows hosts (n + 1) servers more

-- ---- arcs

-- a row is of a region and of the site of a name
abbrev pub is_cost_of : List ℕ → List ℕ → CostEntry → Bool
is_cost_of region name row = bytes_eq row.region region && bytes_eq row.site name

-- what a query from a region costs at a site
abbrev pub cost_of : List CostEntry → List ℕ → List ℕ → Option ℕ
cost_of rows region name = option_map (λ (row : CostEntry). row.cost) (find (is_cost_of region name) rows)

-- the arc to site `n`, whose servers are numbered from `first` on, where a query has a cost there
abbrev pub arc_to : List ℕ → ℕ → ℕ → Site → Option ℕ → List Arc
arc_to handle n first site None = []
arc_to handle n first site (Some cost) =
    record { site = n; server = first + server_place site.option handle (length site.servers); cost = cost } ∷ []

-- the arcs of a row to the sites from site `n` on
abbrev pub arcs_from : List CostEntry → Row → ℕ → ℕ → List Site → List Arc
arcs_from costs row n first [] = []
arcs_from costs row n first (site ∷ more) =
    arc_to row.handle n first site (cost_of costs row.region site.name)
    ++ arcs_from costs row (n + 1) (first + length site.servers) more

-- ---- the instance

pub record Inputs : Type 0 where
  pub settings : SettingsEntries
  pub values : Option (List HandleValue)
  pub demand : List DemandEntry
  pub costs : List CostEntry
  pub capacities : List CapacityEntry

abbrev pub row_of : DemandEntry → Row
row_of row = record { region = row.region; handle = row.handle; count = row.count }

abbrev pub host_of_entry : HostEntry → Host
host_of_entry host = record { address = host.address; limit = host.limit }

-- no fault, or the fault
abbrev pub unless : Option BuildFault → Result ⊤ BuildFault
unless None = Ok tt
unless (Some fault) = Err fault

-- the instance of inputs whose sites are these, or the first fault
abbrev pub instance_with : Inputs → List Site → Result Instance BuildFault
instance_with inputs sites =
    let hosts = map host_of_entry inputs.settings.hosts in
    let rows = map row_of inputs.demand in
    unless (cost_fault sites 0 inputs.costs) >>= λ _.
    unless (capacity_fault sites 0 inputs.capacities) >>= λ _.
    servers_from inputs.capacities hosts 0 [] sites >>= λ servers.
    Ok (record {
      rows = rows;
      sites = sites;
      servers = servers;
      hosts = hosts;
      arcs = map (λ row. arcs_from inputs.costs row 0 0 sites) rows;
    })

-- the instance of the inputs, or the first fault
abbrev pub IsBuilt : Inputs → Result Instance BuildFault → Type 0
IsBuilt inputs answer =
    (sites : Result (List Site) BuildFault) × AreSitesOf inputs.settings inputs.values sites
    × (answer ≡ (sites >>= instance_with inputs))

-- inputs have one answer: the instance, or one first fault
abbrev pub HasOneAnswer : Type 0
HasOneAnswer = (inputs : Inputs) (a b : Result Instance BuildFault) → IsBuilt inputs a → IsBuilt inputs b → a ≡ b
