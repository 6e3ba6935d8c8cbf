-- The instance of inputs has the parts that its definition names.
use Rattle.std.proofs.Common.{◌≡◌, ℕ, zero, suc, ◌+◌, List, [], ◌∷◌, Option, Some, None, Result, Ok, Err, length, map}
use Rattle.std.proofs.Common.{option_map, take, refl, ap, sym, add-zero, zero-add, arith}
use Rattle.std.proofs.lemmas.Option.{slice_get-map}
use Rattle.std.specs.List.{AllByRecursion, slice_get}
use Rattle.hsp_hash.specs.Place.{server_place}
use Rattle.hsp_tables.specs.Costs.{CostEntry}
use Rattle.hsp_text.specs.Answers.{◌>>=◌}
use Rattle.hsp_instance.specs.Building.{AreSitesOf, Inputs, arc_to, arcs_from, capacity_fault, cost_fault, cost_of}
use Rattle.hsp_instance.specs.Building.{IsBuilt, host_of_entry, row_of, servers_from, unless}
use Rattle.hsp_instance.specs.Instance.{Host, Instance, Row, Server, Site, servers_of}
use Rattle.hsp_instance.specs.Parts.{BuiltHasItsParts, HasPartsOf, IsAmong, IsArcOf, responsible_at}
use Rattle.hsp_instance.specs.declared.fault.BuildFault.{BuildFault}
use Rattle.hsp_instance.proofs.Lists.{back_at}
use Rattle.hsp_instance.proofs.ServerLists.{are_from, from_at, from_count}
use Rattle.hsp_instance.proofs.SiteSums.{servers_of-taken}
use Rattle.hsp_text.proofs.Lists.{all_append}

module _ (table : List CostEntry) (whole : List Site) (row : Row) where
  -- the arcs from a site on are those of the row
  each_of : (n first : ℕ) (sites : List Site) → ((k : ℕ) → slice_get whole (n + k) ≡ slice_get sites k)
      → first ≡ servers_of (take n whole) → AllByRecursion (IsArcOf table whole row) (arcs_from table row n first sites)
  each_of n first [] same before = tt
  each_of n first (site ∷ more) same before =
      all_append (IsArcOf table whole row) (arc_to row.handle n first site (cost_of table row.region site.name)) _
      (to (cost_of table row.region site.name) refl)
      (each_of (n + 1) (first + length site.servers) more (λ k. let e : n + 1 + k ≡ n + suc k = omega arith in
      rw e (same (suc k))) (let next = servers_of-taken whole n site at in omega arith))
    where
      at : slice_get whole n ≡ Some site
      at = rw add-zero at (same 0)

      to : (cost : Option ℕ) → cost_of table row.region site.name ≡ cost
          → AllByRecursion (IsArcOf table whole row) (arc_to row.handle n first site cost)
      to None is = tt
      to (Some c) is = (
        record {
          site = site;
          is_site = at;
          cost = is;
          server = ap (λ b. b + server_place site.option row.handle (length site.servers)) before;
        },
        tt,
      )

  -- the arc to a site where there is a cost is one of them
  all_of : (n first : ℕ) (sites : List Site) (i : ℕ) (site : Site) (c : ℕ) → slice_get sites i ≡ Some site
      → cost_of table row.region site.name ≡ Some c
      → IsAmong (arcs_from table row n first sites)
      (record { site = n + i; server = first + responsible_at sites i site row.handle; cost = c })
  all_of n first [] i site c at is = let none : ◌≡◌ {A = Option Site} None (Some site) = at in cc
  all_of n first (x ∷ more) zero site c at is =
      let same : x ≡ site = cc (at) in let e : n + 0 ≡ n = omega arith in (0, rw (same, is, e, zero-add) refl)
  all_of n first (x ∷ more) (suc i) site c at is =
      let found = all_of (n + 1) (first + length x.servers) more i site c at is in
      let arcs = arc_to row.handle n first x (cost_of table row.region x.name) in
      let e : n + suc i ≡ n + 1 + i = omega arith in
      let number : first + responsible_at (x ∷ more) (suc i) site row.handle
      ≡ first + length x.servers + responsible_at more i site row.handle = omega arith in (
        length arcs + found.0,
        rw (e, number, back_at arcs (arcs_from table row (n + 1) (first + length x.servers) more) found.0) found.1,
      )

-- the instance of sites and servers
abbrev parts : Inputs → List Site → List Server → Instance
parts inputs sites servers = record {
  rows = map row_of inputs.demand;
  sites = sites;
  servers = servers;
  hosts = map host_of_entry inputs.settings.hosts;
  arcs = map (λ row. arcs_from inputs.costs row 0 0 sites) (map row_of inputs.demand);
}

-- the parts of an instance that was put together are those of its inputs
parts_are : (inputs : Inputs) (sites : List Site) (servers : List Server)
    → AreSitesOf inputs.settings inputs.values (Ok sites)
    → servers_from inputs.capacities (map host_of_entry inputs.settings.hosts) 0 [] sites ≡ Ok servers
    → HasPartsOf inputs (parts inputs sites servers)
parts_are inputs sites servers are built =
    let hosts : List Host = map host_of_entry inputs.settings.hosts in
    let from = are_from inputs.capacities hosts sites servers built in
    record {
      rows = refl;
      sites = are;
      hosts = refl;
      server_count = from_count inputs.capacities hosts 0 sites servers from;
      servers = λ n place site own at here.
          let found = from_at inputs.capacities hosts 0 sites servers n place site own from at here in
          record { server = found.0; is_server = found.1; is_of = rw zero-add at found.2 };
      arcs = λ i row at. (
        arcs_from inputs.costs row 0 0 sites,
        rw slice_get-map (ap (option_map (λ (r : Row). arcs_from inputs.costs r 0 0 sites)) at),
        record {
          each = each_of inputs.costs sites row 0 0 sites (λ k. rw zero-add refl) refl;
          all = λ n site c there is.
              let found = all_of inputs.costs sites row 0 0 sites n site c there is in
              let first : 0 + n ≡ n = omega arith in
              let number : 0 + responsible_at sites n site row.handle ≡ responsible_at sites n site row.handle =
              omega arith in
              rw (first, number) at found;
        },
      );
    }

-- what is built, by its steps
pub record BuiltOf (inputs : Inputs) (it : Instance) : Type 0 where
  pub sites : AreSitesOf inputs.settings inputs.values (Ok it.sites)
  pub costs : cost_fault it.sites 0 inputs.costs ≡ None
  pub capacities : capacity_fault it.sites 0 inputs.capacities ≡ None
  pub rows : it.rows ≡ map row_of inputs.demand
  pub hosts : it.hosts ≡ map host_of_entry inputs.settings.hosts
  pub servers : servers_from inputs.capacities it.hosts 0 [] it.sites ≡ Ok it.servers
  pub arcs : it.arcs ≡ map (λ row. arcs_from inputs.costs row 0 0 it.sites) it.rows

-- an instance that was built has parts that were read in turn
pub built_of : (inputs : Inputs) (it : Instance) → IsBuilt inputs (Ok it) → BuiltOf inputs it
built_of inputs it (Err fault, are, e) = cc (e)
built_of inputs it (Ok sites, are, e) =
    let (servers, costs, capacities, made, same) =
    in_steps (cost_fault sites 0 inputs.costs) (capacity_fault sites 0 inputs.capacities)
    (servers_from inputs.capacities (map host_of_entry inputs.settings.hosts) 0 [] sites) (sym e) in
    rw (← same)
    (record {
      sites = are;
      costs = costs;
      capacities = capacities;
      rows = refl;
      hosts = refl;
      servers = made;
      arcs = refl;
    })
  where
    in_steps : (a b : Option BuildFault) (r : Result (List Server) BuildFault)
        → (unless a >>= λ _. unless b >>= λ _. r >>= λ servers. Ok (parts inputs sites servers)) ≡ Ok it
        → (servers : List Server) × (a ≡ None) × (b ≡ None) × (r ≡ Ok servers) × (parts inputs sites servers ≡ it)
    in_steps a b r e = grind arith

-- an instance that was built has the parts of its definition
pub built_has_its_parts : BuiltHasItsParts
built_has_its_parts inputs it built =
    let of = built_of inputs it built in
    let same : parts inputs it.sites it.servers ≡ it = rw (← of.rows, ← of.hosts, ← of.arcs) refl in
    rw same at (parts_are inputs it.sites it.servers of.sites (rw of.hosts at of.servers))
