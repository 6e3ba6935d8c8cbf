-- What is built is within the limits of an instance.
use Rattle.std.proofs.Common.{◌≡◌, ◌∙◌, ◌≤◌, ◌+◌, ℕ, List, [], ◌∷◌, Option, Some, None, Ok, length, map, refl, ap, sym}
use Rattle.std.proofs.Common.{arith, zero-add}
use Rattle.std.specs.Prelude.{⊤}
use Rattle.std.proofs.lemmas.List.{length-map}
use Rattle.std.proofs.lemmas.Nat.{mod_below}
use Rattle.std.specs.List.{AllByRecursion, slice_get}
use Rattle.hsp_hash.specs.Place.{server_place}
use Rattle.hsp_tables.specs.Capacities.{AreCapacities, CapacityEntry, IsCapacityEntry}
use Rattle.hsp_tables.specs.Costs.{AreCosts, CostEntry, IsCostEntry}
use Rattle.hsp_tables.specs.Demand.{AreDemand, DemandEntry, IsDemandEntry, same_demand}
use Rattle.hsp_tables.specs.InTurn.{AreKeyed}
use Rattle.hsp_tables.specs.Settings.{AreSettings, HostEntry, IsHostEntry, same_address as same_host_address}
use Rattle.hsp_text.specs.declared.limits.TheConstants.{GREATEST_COST, MOST_HOSTS}
use Rattle.hsp_instance.specs.Building.{Inputs, arc_to, arcs_from, cost_of, host_of_entry, is_cost_of, row_of}
use Rattle.hsp_instance.specs.Building.{servers_from}
use Rattle.hsp_instance.specs.Instance.{AreArcs, AreHosts, AreRows, AreServers, AreSites, HasServer, Host, IsAddressed}
use Rattle.hsp_instance.specs.Instance.{IsArc, IsCounted, IsInstance, IsLimited, IsNamed, Row, Server, Site}
use Rattle.hsp_instance.specs.Instance.{same_address, same_keys}
use Rattle.hsp_instance.proofs.ArcLists.{arcs_ascending, arcs_few}
use Rattle.hsp_instance.proofs.Lists.{all_map, back_at, distinct_map, found_within, front_at, map_twice, there}
use Rattle.hsp_instance.proofs.ServerLists.{AreFrom, are_from, from_at, from_count, from_number, from_servers, own_at}
use Rattle.hsp_instance.proofs.ServerLists.{own_count}
use Rattle.hsp_text.proofs.Lists.{all_append}

-- a cost is within its limit
pub cost_within : (rows : List CostEntry) (region name : List ℕ) (c : ℕ) → AllByRecursion IsCostEntry rows
    → cost_of rows region name ≡ Some c → c ≤ GREATEST_COST
cost_within rows region name c all e =
    found_within IsCostEntry GREATEST_COST (λ (row : CostEntry). row.cost) (is_cost_of region name) rows c
    (λ row is. is.cost) all e

-- the servers of the sites are servers of an instance
servers_are : (rows : List CapacityEntry) (hosts : List Host) → AllByRecursion IsCapacityEntry rows
    → (sites : List Site) (servers : List Server) → AreSites sites → AreFrom rows hosts 0 sites servers
    → AreServers sites (length hosts) servers
servers_are rows hosts each sites servers are from = record {
  few = rw (from_count rows hosts 0 sites servers from) are.servers;
  each = from_servers rows hosts each sites 0 sites servers (λ k. rw zero-add refl) from;
  count = from_count rows hosts 0 sites servers from;
  at_place = λ n place site at within.
      let own = there site.servers place within in
      let found = from_at rows hosts 0 sites servers n place site own.0 from at own.1 in
      record {
        server = found.0;
        is_server = found.1;
        same_site = rw zero-add at found.2.site;
        same_place = found.2.place;
      };
  number = λ i server at.
      let found = from_number rows hosts 0 sites servers i server from at in
      let site : server.site ≡ found.0 = rw zero-add at found.1 in
      rw site found.2;
}

-- each arc goes to a server of its site
module _ (servers : List Server) (capacities : List CapacityEntry) (hosts : List Host) (table : List CostEntry)
    (each : AllByRecursion IsCostEntry table) (row : Row) where
  -- the arcs of a row lead to servers of their sites
  arcs_are : (n first : ℕ) (sites : List Site) (mine : List Server) → AllByRecursion HasServer sites
      → AreFrom capacities hosts n sites mine
      → ((k : ℕ) → slice_get servers (first + k) ≡ slice_get mine k)
      → AllByRecursion (IsArc servers) (arcs_from table row n first sites)
  arcs_are n first [] mine have are same = tt
  arcs_are n first (site ∷ more) mine have are same =
      all_append (IsArc servers) (arc_to row.handle n first site (cost_of table row.region site.name)) _
      (to (cost_of table row.region site.name) refl)
      (arcs_are (n + 1) (first + length site.servers) more are.1 have.1 are.4 rest)
    where
      count : length are.0 ≡ length site.servers
      count = own_count capacities hosts n site.name 0 site.servers are.0 are.3

      rest : (k : ℕ) → slice_get servers (first + length site.servers + k) ≡ slice_get are.1 k
      rest k =
          let e : first + length site.servers + k ≡ first + (length are.0 + k) = let long = count in omega arith in
          rw e (same (length are.0 + k) ∙ ap (λ list. slice_get list (length are.0 + k)) are.2 ∙ back_at are.0 are.1 k)

      to : (cost : Option ℕ) → cost_of table row.region site.name ≡ cost
          → AllByRecursion (IsArc servers) (arc_to row.handle n first site cost)
      to None is = tt
      to (Some c) is =
          let place = server_place site.option row.handle (length site.servers) in
          let own = there site.servers place (mod_below _ (length site.servers) have.0) in
          let s = own_at capacities hosts n site.name 0 site.servers are.0 place own.0 are.3 own.1 in (
            record {
              server = s.0;
              is_server = same place ∙ ap (λ list. slice_get list place) are.2 ∙ front_at are.0 are.1 place s.0 s.1;
              same_site = sym s.2.site;
              cost = cost_within table row.region site.name c each is;
            },
            tt,
          )

-- rows of demand are rows of an instance
pub rows_are : (demand : List DemandEntry) → AreDemand demand → AreRows (map row_of demand)
rows_are demand are = record {
  few = rw length-map are.keyed.few;
  each = all_map IsDemandEntry IsCounted row_of demand (λ row is. is.count) are.keyed.each;
  apart = distinct_map same_demand same_keys row_of demand (λ x y. refl) are.keyed.apart;
  named =
      all_map IsDemandEntry IsNamed row_of demand (λ row is. record { region = is.region; handle = is.handle })
      are.keyed.each;
  regions = rw (map_twice row_of (λ (row : Row). row.region) demand) are.regions;
}

-- hosts of the settings are hosts of an instance
hosts_are : (hosts : List HostEntry) → AreKeyed MOST_HOSTS IsHostEntry same_host_address hosts
    → AreHosts (map host_of_entry hosts)
hosts_are hosts are = record {
  few = rw length-map are.few;
  each = all_map IsHostEntry IsLimited host_of_entry hosts (λ host is. is.limit) are.each;
  addressed = all_map IsHostEntry IsAddressed host_of_entry hosts (λ host is. is.address) are.each;
  apart = distinct_map same_host_address same_address host_of_entry hosts (λ x y. refl) are.apart;
}

-- the parts that are built are an instance
pub are_instance : (inputs : Inputs) (sites : List Site) (servers : List Server) → AreSettings inputs.settings
    → AreDemand inputs.demand → AreCosts inputs.costs → AreCapacities inputs.capacities → AreSites sites
    → servers_from inputs.capacities (map host_of_entry inputs.settings.hosts) 0 [] sites ≡ Ok servers
    → IsInstance (record {
      rows = map row_of inputs.demand;
      sites = sites;
      servers = servers;
      hosts = map host_of_entry inputs.settings.hosts;
      arcs = map (λ row. arcs_from inputs.costs row 0 0 sites) (map row_of inputs.demand);
    })
are_instance inputs sites servers settings demand costs capacities are built =
    let hosts : List Host = map host_of_entry inputs.settings.hosts in
    let from = are_from inputs.capacities hosts sites servers built in
    let all_rows : AllByRecursion (λ (row : Row). ⊤) (map row_of inputs.demand) =
    all_map IsDemandEntry (λ (row : Row). ⊤) row_of inputs.demand (λ row is. tt) demand.keyed.each in
    record {
      rows = rows_are inputs.demand demand;
      sites = are;
      hosts = hosts_are inputs.settings.hosts settings.hosts;
      servers = servers_are inputs.capacities hosts capacities.keyed.each sites servers are from;
      one_list_a_row = length-map (map row_of inputs.demand) (λ row. arcs_from inputs.costs row 0 0 sites);
      arcs =
          all_map (λ (row : Row). ⊤) (AreArcs servers) (λ row. arcs_from inputs.costs row 0 0 sites)
          (map row_of inputs.demand) (λ row any. record {
            few = let less = arcs_few inputs.costs row 0 0 sites in let most = are.few in omega arith;
            each =
                arcs_are servers inputs.capacities hosts inputs.costs costs.keyed.each row 0 0 sites servers are.each
                from
                (λ k. rw zero-add refl);
            ascending = arcs_ascending inputs.costs row 0 0 sites;
          }) all_rows;
    }
