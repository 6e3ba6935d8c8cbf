-- The page is what is read and built: in both directions.
use Rattle.std.proofs.Common.{◌≡◌, ◌∙◌, ◌≤◌, ℕ, List, [], ◌∷◌, Option, Some, None, Ok, codes, decimal, length, map}
use Rattle.std.proofs.Common.{option_map, refl, ap, sym, subst, arith}
use Rattle.std.proofs.lemmas.List.{length-map, map-id}
use Rattle.std.proofs.lemmas.Str.{IsUtf8-from_is_utf8}
use Rattle.std.specs.List.{AllByRecursion, IsDistinct}
use Rattle.std.specs.Str.{bytes_eq}
use Rattle.hsp_csv.specs.Records.{records_of}
use Rattle.hsp_names.specs.Handle.{ReadingsAreHandles, local_name, naming_authority}
use Rattle.hsp_record.specs.Values.{HandleValue}
use Rattle.hsp_text.specs.declared.limits.TheConstants.{MOST_HOSTS, MOST_REGIONS, MOST_SITES}
use Rattle.hsp_tables.specs.Capacities.{CapacityEntry, capacity_table, same_capacity}
use Rattle.hsp_tables.specs.Costs.{CostEntry, cost_table, most_cost_regions}
use Rattle.hsp_tables.specs.Demand as tables
use Rattle.hsp_tables.specs.declared.limits.Limits.{Limits}
use Rattle.hsp_tables.specs.Demand.{DemandEntry, IsDemandEntry, demand_table, same_demand}
use Rattle.hsp_tables.specs.Settings as settings
use Rattle.hsp_tables.specs.Settings.{HostEntry, SettingsEntries, SiteEntry, host_after, host_at, settings_of}
use Rattle.hsp_tables.specs.Settings.{site_after, site_at}
use Rattle.hsp_tables.specs.Table.{table_of}
use Rattle.hsp_tables.specs.InTurn.{AreKeyed}
use Rattle.hsp_tables.specs.declared.fault.TableFault.TheVariants as fault
use Rattle.hsp_tables.proofs.Documents.{document_is}
use Rattle.hsp_tables.proofs.SettingsLists as lists
use Rattle.hsp_tables.proofs.TableRows as table_rows
use Rattle.hsp_instance.specs.Building as building
use Rattle.hsp_instance.specs.Building.{IsBuilt, arcs_from, host_of_entry, row_of}
use Rattle.hsp_instance.specs.Instance.{AreSites, HasServer, Host, Instance, IsInstance, IsSite, Row, Server, Site}
use Rattle.hsp_instance.specs.Instance.{same_address, same_keys, same_name}
use Rattle.hsp_instance.specs.declared.arc.Arc.{Arc}
use Rattle.hsp_instance.proofs.BuiltParts.{BuiltOf, built_has_its_parts, built_of}
use Rattle.hsp_instance.proofs.Lists.{all_from, all_map, distinct_map, map_twice}
use Rattle.hsp_inputs.proofs.FewRegions.{few_names, few_seen}
use Rattle.hsp_inputs.specs.Headline.{AreCapacities, AreCosts, AreDemand, AreGiven, AreServers, AreSettings, Defines}
use Rattle.hsp_inputs.specs.Headline.{IsDemand}
use Rattle.hsp_inputs.specs.Limits.{limits_of}
use Rattle.hsp_inputs.specs.Stated.{AreValues, EachStates, StatesHost, StatesSite}
use Rattle.hsp_inputs.specs.declared.inputs.Inputs.{Inputs}
use Rattle.hsp_inputs.proofs.PageArcs.{arcs_alone, arcs_are, servers_alone}
use Rattle.hsp_inputs.proofs.PageBuilt.{HasCapacity, capacities_have_no_fault, capacities_known, capacity_entries}
use Rattle.hsp_inputs.proofs.PageBuilt.{cost_entries, costs_have_no_fault, costs_known, is_built, servers_built}
use Rattle.hsp_inputs.proofs.PageBuilt.{sites_of_instance}
use Rattle.hsp_inputs.proofs.Finding.{number_is_found}
use Rattle.hsp_inputs.proofs.PageServers.{capacity_rows, servers_are}
use Rattle.hsp_instance.proofs.Limits.{are_instance}
use Rattle.toml.specs.Data as toml
use Rattle.toml.specs.Data.{Items, get_member}
use Rattle.hsp_inputs.proofs.PageSettings.{host_is, host_is_read, root_keys, spelled, told}
use Rattle.hsp_inputs.proofs.PageSites.{AreListed, distinct_before, sites_are, sites_are_read}

-- the rows that the table of demand holds, or none where it is not given
abbrev pub HoldsRows : Option (List ℕ) → List DemandEntry → Type 0
HoldsRows (Some octets) rows = table_of demand_table (records_of octets) ≡ Ok rows
HoldsRows None rows = rows ≡ []

-- what the five inputs hold
pub record Holds (inputs : Inputs) (read : building.Inputs) : Type 0 where
  pub settings : settings_of inputs.settings.items ≡ Ok read.settings
  pub values : AreValues (option_map (λ octets. octets.items) inputs.values) read.values
  pub demand : HoldsRows (option_map (λ octets. octets.items) inputs.demand) read.demand
  pub costs : table_of (cost_table (limits_of inputs)) (records_of inputs.costs.items) ≡ Ok read.costs
  pub capacities : table_of capacity_table (records_of inputs.capacity.items) ≡ Ok read.capacities

-- ---- names

-- sites whose entries have different names are different
apart_by_names : (entries : List SiteEntry) (sites : List Site)
    → map (λ (entry : SiteEntry). entry.name) entries ≡ map (λ (site : Site). site.name) sites
    → IsDistinct settings.same_name entries → IsDistinct same_name sites
apart_by_names entries sites named apart =
    let names =
    distinct_map settings.same_name bytes_eq (λ (entry : SiteEntry). entry.name) entries (λ x y. refl) apart in
    distinct_before same_name bytes_eq (λ (site : Site). site.name) (λ x y. refl) sites (rw named at names)

-- entries whose sites have different names are different
entries_apart : (entries : List SiteEntry) (sites : List Site)
    → map (λ (entry : SiteEntry). entry.name) entries ≡ map (λ (site : Site). site.name) sites
    → IsDistinct same_name sites → IsDistinct settings.same_name entries
entries_apart entries sites named apart =
    let names = distinct_map same_name bytes_eq (λ (site : Site). site.name) sites (λ x y. refl) apart in
    distinct_before settings.same_name bytes_eq (λ (entry : SiteEntry). entry.name) (λ x y. refl) entries
    (rw (← named) at names)

-- there are as many entries as sites
as_many : (entries : List SiteEntry) (sites : List Site)
    → map (λ (entry : SiteEntry). entry.name) entries ≡ map (λ (site : Site). site.name) sites
    → length entries ≡ length sites
as_many entries sites named =
    sym (length-map entries (λ (entry : SiteEntry). entry.name)) ∙ ap length named
    ∙ length-map sites (λ (site : Site). site.name)

-- ---- tables

module _ (handles : ReadingsAreHandles) where
  -- a row that is read is a row of the page
  demand_row : (row : DemandEntry) → IsDemandEntry row → IsDemand (row_of row)
  demand_row row is = (
    is.region,
    (
      naming_authority row.handle,
      local_name row.handle,
      (handles row.handle (naming_authority row.handle) (local_name row.handle)).1 (is.handle, refl, refl),
    ),
    is.count,
  )

  -- demand that is read is the page's
  demand_are : (text : List ℕ) (rows : List DemandEntry) → table_of demand_table (records_of text) ≡ Ok rows
      → AreDemand text (map row_of rows)
  demand_are text rows e =
      let (is, are) = (table_rows.demand_is_read (records_of text) rows).0 e in (
        record {
          records =
              is
              ∙ ap (λ t. demand_table.header ∷ t)
              (sym (map_twice row_of (λ (row : Row). row.region ∷ row.handle ∷ decimal row.count ∷ []) rows));
          few = rw length-map are.keyed.few;
          each = all_map IsDemandEntry IsDemand row_of rows demand_row are.keyed.each;
          apart = distinct_map same_demand same_keys row_of rows (λ x y. refl) are.keyed.apart;
        },
        few_names MOST_REGIONS (map (λ (row : Row). row.region) (map row_of rows))
            (rw (map_twice row_of (λ (row : Row). row.region) rows) are.regions),
      )

  -- rows that are read are the page's
  are_given : (given : Option (List ℕ)) (rows : List DemandEntry) → HoldsRows given rows
      → AreGiven given (map row_of rows)
  are_given (Some text) rows held = demand_are text rows held
  are_given None rows none = rw none refl

-- costs that are read are the page's
costs_are : (limits : Limits) (sites : List Site) (text : List ℕ) (rows : List CostEntry)
    → building.cost_fault sites 0 rows ≡ None → table_of (cost_table limits) (records_of text) ≡ Ok rows
    → AreCosts limits sites text rows
costs_are limits sites text rows none e =
    let (is, are) = (table_rows.costs_are limits (records_of text) rows).0 e in (
      record {
        records = is;
        few = are.keyed.few;
        each = costs_known sites 0 rows none are.keyed.each;
        apart = are.keyed.apart;
      },
      few_names (most_cost_regions limits) (map (λ (row : CostEntry). row.region) rows) are.regions,
    )

-- capacities that are read are the page's
capacities_are : (sites : List Site) (text : List ℕ) (rows : List CapacityEntry)
    → building.capacity_fault sites 0 rows ≡ None → table_of capacity_table (records_of text) ≡ Ok rows
    → AreCapacities sites text rows
capacities_are sites text rows none e =
    let (is, are) = (table_rows.capacities_are (records_of text) rows).0 e in
    record {
      records = is;
      few = are.keyed.few;
      each = capacities_known sites 0 rows none are.keyed.each;
      apart = are.keyed.apart;
    }

-- ---- what is built is of the page

-- settings that are read are the page's
settings_of_page : (values : Option (List HandleValue)) (text : List ℕ) (read : SettingsEntries) (sites : List Site)
    → settings_of text ≡ Ok read
    → building.AreSitesOf read values (Ok sites) → AreSettings values text sites (map host_of_entry read.hosts)
settings_of_page values text read sites e are =
    let (document, is_text, parsed, keys, site_list, host_list) = lists.settings_parts text read e in
    let listed =
    lists.listed_is (fault.BadSite 0) MOST_SITES site_at settings.same_name site_after lists.sites_read_as_spelled
    (get_member (codes "site") document) read.sites site_list in
    let hosts =
    lists.listed_is (fault.BadHost 0) MOST_HOSTS host_at settings.same_address host_after
    lists.hosts_read_as_spelled (get_member (codes "host") document) read.hosts host_list in
    let tell = told site_at (λ entry. entry) lists.StatesSite lists.site_is 0 listed.0 read.sites listed.2.spelled in
    let next = sites_are values [] listed.0 read.sites sites (omega arith) (rw map-id at tell) are in
    let whole : next.sites ≡ sites = sym next.whole in
    let many = as_many read.sites next.sites next.named in
    let few : length next.sites ≤ MOST_SITES = omega (arith, many, listed.2.few) in
    record {
      utf8 = IsUtf8-from_is_utf8 text is_text;
      document = document;
      read = parsed;
      keys = root_keys document ∙ keys;
      site = (listed.0, listed.1, rw whole at next.told);
      few_sites = rw whole at few;
      few_servers = next.few;
      names = rw whole at (apart_by_names read.sites next.sites next.named listed.2.apart);
      host = (hosts.0, hosts.1, told host_at host_of_entry StatesHost host_is 0 hosts.0 read.hosts hosts.2.spelled);
      few_hosts = rw length-map hosts.2.few;
      addresses = distinct_map settings.same_address same_address host_of_entry read.hosts (λ x y. refl) hosts.2.apart;
    }

module _ (handles : ReadingsAreHandles) where
  -- inputs that are read and built define the instance
  pub is_defined : (inputs : Inputs) (read : building.Inputs) (it : Instance) → Holds inputs read → IsBuilt read (Ok it)
      → Defines inputs it
  is_defined inputs read it holds built =
      let of = built_of read it built in
      let has = built_has_its_parts read it built in
      let page = settings_of_page read.values inputs.settings.items read.settings it.sites holds.settings of.sites in
      let costs = costs_are (limits_of inputs) it.sites inputs.costs.items read.costs of.costs holds.costs in
      record {
        values = read.values;
        are_values = holds.values;
        settings = rw (← of.hosts) at page;
        demand = rw (← of.rows) at (are_given handles _ read.demand holds.demand);
        costs = read.costs;
        are_costs = costs;
        capacities = read.capacities;
        are_capacities = capacities_are it.sites inputs.capacity.items read.capacities of.capacities holds.capacities;
        servers = servers_are read it has;
        arcs =
            arcs_are read it costs.0.apart has of.arcs
            (rw of.arcs (length-map it.rows (λ row. arcs_from read.costs row 0 0 it.sites)));
      }

-- ---- what is of the page is read and built

abbrev host_entry : Host → HostEntry
host_entry host = record { address = host.address; limit = host.limit }

abbrev demand_entry : Row → DemandEntry
demand_entry row = record { region = row.region; handle = row.handle; count = row.count }

-- values of the page are a list within its limits
values_are : (given : Option (List ℕ)) (values : Option (List HandleValue)) → AreValues given values → AreListed values
values_are None None are = tt
values_are None (Some values) are = absurd are
values_are (Some octets) None are = absurd are
values_are (Some octets) (Some values) are = are.0

-- the settings of the page are read as those of its sites
pub record AreReadAs (values : Option (List HandleValue)) (text : List ℕ) (sites : List Site) (hosts : List Host) : Type
    0 where
  pub read : SettingsEntries
  pub settings : settings_of text ≡ Ok read
  pub built : building.AreSitesOf read values (Ok sites)
  pub same_hosts : map host_of_entry read.hosts ≡ hosts

-- settings of the page are read
settings_read : (values : Option (List HandleValue)) (text : List ℕ) (sites : List Site) (hosts : List Host)
    → AreListed values → AreSettings values text sites hosts
    → AreReadAs values text sites hosts
settings_read values text sites hosts listed are =
    let from = sites_are_read values [] are.site.0 sites listed are.few_servers are.site.2 in
    let entries : List HostEntry = map host_entry hosts in
    let back : map host_of_entry entries ≡ hosts = map_twice host_entry host_of_entry hosts ∙ map-id hosts in
    let many = as_many from.entries sites from.named in
    let tell : EachStates lists.StatesSite are.site.0 (map (λ entry. entry) from.entries) = rw map-id from.told in
    let read_sites =
    lists.lists (fault.BadSite 0) MOST_SITES site_at settings.same_name site_after lists.sites_read_as_spelled _
    are.site.0 from.entries are.site.1 (record {
      spelled = spelled site_at (λ entry. entry) lists.StatesSite lists.site_is_read 0 are.site.0 from.entries tell;
      few = omega (arith, many, are.few_sites);
      apart = entries_apart from.entries sites from.named are.names;
    }) in
    let read_hosts =
    lists.lists (fault.BadHost 0) MOST_HOSTS host_at settings.same_address host_after lists.hosts_read_as_spelled _
    are.host.0 entries are.host.1 (record {
      spelled = spelled host_at host_of_entry StatesHost host_is_read 0 are.host.0 entries (rw back are.host.2);
      few = rw length-map are.few_hosts;
      apart = distinct_map same_address settings.same_address host_entry hosts (λ x y. refl) are.addresses;
    }) in
    let parsed = document_is text are.document are.utf8 are.read in
    let keys = sym (root_keys are.document) ∙ are.keys in
    record {
      read = record { sites = from.entries; hosts = entries };
      settings = rw (parsed, keys, read_sites, read_hosts) refl;
      built = from.read;
      same_hosts = back;
    }

module _ (handles : ReadingsAreHandles) where
  -- demand of the page is read as its rows
  demand_is_read_as : (text : List ℕ) (rows : List Row) → AreDemand text rows
      → table_of demand_table (records_of text) ≡ Ok (map demand_entry rows)
  demand_is_read_as text rows are =
      let entries = all_map IsDemand IsDemandEntry demand_entry rows (λ row is.
      record { region = is.0; handle = ((handles row.handle is.1.0 is.1.1).0 is.1.2).0; count = is.2 }) are.0.each in
      (table_rows.demand_is_read (records_of text) (map demand_entry rows)).1 (
        are.0.records ∙ ap (λ t. demand_table.header ∷ t) (sym (map_twice demand_entry table_rows.demand_fields rows)),
        record {
          keyed =
              record {
                few = rw length-map are.0.few;
                each = entries;
                apart = distinct_map same_keys same_demand demand_entry rows (λ x y. refl) are.0.apart;
              };
          regions =
              rw (map_twice demand_entry (λ (row : DemandEntry). row.region) rows)
              (few_seen MOST_REGIONS (map (λ (row : Row). row.region) rows) are.1);
        },
      )

  -- rows of the page are read as its rows
  are_read_as : (given : Option (List ℕ)) (rows : List Row) → AreGiven given rows
      → HoldsRows given (map demand_entry rows)
  are_read_as (Some text) rows are = demand_is_read_as text rows are
  are_read_as None rows none = rw none refl

-- costs of the page are read as its rows
pub costs_are_read_as : (limits : Limits) (sites : List Site) (text : List ℕ) (rows : List CostEntry)
    → AllByRecursion IsSite sites → AreCosts limits sites text rows
    → table_of (cost_table limits) (records_of text) ≡ Ok rows
costs_are_read_as limits sites text rows of are =
    let keyed : AreKeyed _ _ _ rows =
    record { few = are.0.few; each = cost_entries sites rows of are.0.each; apart = are.0.apart } in
    let few = few_seen (most_cost_regions limits) (map (λ (row : CostEntry). row.region) rows) are.1 in
    (table_rows.costs_are limits (records_of text) rows).1
    (are.0.records, record { keyed = keyed; regions = few })

-- capacities of the page are read as its rows
capacities_are_read_as : (sites : List Site) (text : List ℕ) (rows : List CapacityEntry) → AllByRecursion IsSite sites
    → AreCapacities sites text rows
    → table_of capacity_table (records_of text) ≡ Ok rows
capacities_are_read_as sites text rows of are =
    let keyed : AreKeyed _ _ _ rows =
    record { few = are.few; each = capacity_entries sites rows of are.each; apart = are.apart } in
    (table_rows.capacities_are (records_of text) rows).1 (are.records, record { keyed = keyed; regions = omega arith })

-- each server of the page has a capacity
have_capacities : (capacities : List CapacityEntry) (it : Instance) → IsDistinct same_capacity capacities
    → AreServers capacities it
    → AllByRecursion (λ (site : Site). AllByRecursion (HasCapacity capacities site.name) site.servers) it.sites
have_capacities capacities it apart are =
    all_from (λ (site : Site). AllByRecursion (HasCapacity capacities site.name) site.servers) it.sites (λ n site at.
    all_from (HasCapacity capacities site.name) site.servers (λ place own here.
    let one = are.each n place site own at here in
    (one.0, number_is_found (capacity_rows site.name own.id) capacities one.0 apart one.3)))

module _ (handles : ReadingsAreHandles) where
  -- inputs that define an instance are read and built
  pub is_read : (inputs : Inputs) (it : Instance) → Defines inputs it
      → (read : building.Inputs) × Holds inputs read × IsBuilt read (Ok it)
  is_read inputs it page =
      let values = values_are _ page.values page.are_values in
      let own = settings_read page.values inputs.settings.items it.sites it.hosts values page.settings in
      let of = sites_of_instance page.values page.settings.site.0 it.sites page.settings.site.2 in
      let servers =
      servers_built page.capacities it.hosts 0 [] it.sites
      (have_capacities page.capacities it page.are_capacities.apart page.servers) in
      let read : building.Inputs =
      record {
        settings = own.read;
        values = page.values;
        demand = map demand_entry it.rows;
        costs = page.costs;
        capacities = page.capacities;
      } in
      let made : Instance =
      record {
        rows = it.rows;
        sites = it.sites;
        servers = servers.0;
        hosts = it.hosts;
        arcs = map (λ row. arcs_from page.costs row 0 0 it.sites) it.rows;
      } in
      let built : BuiltOf read made = record {
        sites = own.built;
        costs = costs_have_no_fault it.sites 0 page.costs page.settings.names page.are_costs.0.each;
        capacities = capacities_have_no_fault it.sites 0 page.capacities page.settings.names page.are_capacities.each;
        rows = sym (map_twice demand_entry row_of it.rows ∙ map-id it.rows);
        hosts = sym own.same_hosts;
        servers = servers.1;
        arcs = refl;
      } in
      let whole = is_built read made built in
      let has = built_has_its_parts read made whole in
      let count : length made.arcs ≡ length made.rows =
      length-map it.rows (λ row. arcs_from page.costs row 0 0 it.sites) in
      let same_servers : it.servers ≡ servers.0 =
      servers_alone page.capacities it made page.are_capacities.apart page.settings.addresses refl refl page.servers
      (servers_are read made has) in
      let same_arcs : it.arcs ≡ made.arcs =
      arcs_alone page.costs it made refl refl page.arcs
      (arcs_are read made page.are_costs.0.apart has refl count) in
      let same : made ≡ it = same_instance it servers.0 made.arcs same_servers same_arcs in (
        read,
        record {
          settings = own.settings;
          values = page.are_values;
          demand = are_read_as handles _ it.rows page.demand;
          costs = costs_are_read_as (limits_of inputs) it.sites inputs.costs.items page.costs of page.are_costs;
          capacities = capacities_are_read_as it.sites inputs.capacity.items page.capacities of page.are_capacities;
        },
        subst (λ (i : Instance). IsBuilt read (Ok i)) same whole,
      )
    where
      same_instance : (it : Instance) (servers : List Server) (arcs : List (List Arc)) → it.servers ≡ servers
          → it.arcs ≡ arcs
          → record { rows = it.rows; sites = it.sites; servers = servers; hosts = it.hosts; arcs = arcs } ≡ it
      same_instance it servers arcs p q = rw (← p, ← q) refl

-- ---- what is built is within its limits

-- each site of the page has a server
have_servers : (values : Option (List HandleValue)) (items : Items) (sites : List Site)
    → EachStates (StatesSite values) items sites → AllByRecursion HasServer sites
have_servers values toml.no_items [] tell = tt
have_servers values toml.no_items (site ∷ sites) tell = absurd tell
have_servers values (toml.item value items) [] tell = absurd tell
have_servers values (toml.item value items) (site ∷ sites) tell =
    (tell.2.spelled.some, have_servers values items sites tell.3)

-- rows that are read are within their limits
rows_within : (given : Option (List ℕ)) (rows : List DemandEntry) → HoldsRows given rows → tables.AreDemand rows
rows_within (Some text) rows held = ((table_rows.demand_is_read (records_of text) rows).0 held).1
rows_within None rows none = rw none table_rows.no_demand

-- an instance of the page is within its limits
pub is_within : (inputs : Inputs) (read : building.Inputs) (it : Instance) → Holds inputs read → IsBuilt read (Ok it)
    → Defines inputs it → IsInstance it
is_within inputs read it holds built page =
    let of = built_of read it built in
    let of_page = page.settings in
    let sites : AreSites it.sites = record {
      few = of_page.few_sites;
      each = have_servers page.values of_page.site.0 it.sites of_page.site.2;
      servers = of_page.few_servers;
      are = sites_of_instance page.values of_page.site.0 it.sites of_page.site.2;
      apart = of_page.names;
    } in
    let within =
    are_instance read it.sites it.servers
    (lists.settings_are_within inputs.settings.items read.settings holds.settings)
    (rows_within _ read.demand holds.demand)
    (table_rows.costs_fit (limits_of inputs) read.costs
    ((table_rows.costs_are (limits_of inputs) (records_of inputs.costs.items) read.costs).0 holds.costs).1)
    ((table_rows.capacities_are (records_of inputs.capacity.items) read.capacities).0 holds.capacities).1 sites
    (rw of.hosts at of.servers) in
    rw (← of.hosts, ← of.rows, ← of.arcs) at within
