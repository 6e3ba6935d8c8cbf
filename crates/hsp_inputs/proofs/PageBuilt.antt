-- What is built, and from what.
use Rattle.std.proofs.Common.{◌≡◌, ◌∙◌, ◌+◌, ◌==◌, ℕ, true, List, [], ◌∷◌, Option, Some, None, Ok, map, refl, sym}
use Rattle.std.proofs.Common.{arith}
use Rattle.std.proofs.lemmas.List.Folds.{Any-from_list_any, list_any-from_Any}
use Rattle.std.proofs.lemmas.Bool.Decides.{Decides-eqb}
use Rattle.std.proofs.lemmas.Slice.Eq.{bytes_eq-Decides}
use Rattle.std.specs.List.{AllByRecursion, Contains, IsDistinct, find}
use Rattle.toml.specs.Data as toml
use Rattle.toml.specs.Data.{Items}
use Rattle.hsp_record.specs.Site as records
use Rattle.hsp_record.specs.Values.{HandleValue}
use Rattle.hsp_tables.specs.Capacities.{CapacityEntry, IsCapacityEntry}
use Rattle.hsp_tables.specs.Costs.{CostEntry, IsCostEntry}
use Rattle.hsp_instance.specs.Building.{Inputs, IsBuilt, capacity_fault, capacity_of, cost_fault, has_id, is_named}
use Rattle.hsp_instance.specs.Building.{server_of_record, servers_at, servers_from}
use Rattle.hsp_instance.specs.Instance.{Host, Instance, IsSite, IsSiteServer, Server, Site, SiteServer, same_name}
use Rattle.hsp_instance.proofs.BuiltParts.{BuiltOf}
use Rattle.hsp_instance.proofs.Lists.{all_map}
use Rattle.hsp_inputs.specs.Headline.{IsCapacity, IsCost}
use Rattle.hsp_inputs.specs.Stated.{EachStates, StatesSite}
use Rattle.hsp_inputs.proofs.Finding.{all_of, found, finds}

-- ---- the parts of what is built

-- parts that were built make the instance
pub is_built : (inputs : Inputs) (it : Instance) → BuiltOf inputs it → IsBuilt inputs (Ok it)
is_built inputs it built = (
  Ok it.sites,
  built.sites,
  sym (rw (built.costs, built.capacities, ← built.hosts, built.servers, ← built.rows, ← built.arcs) refl),
)

-- ---- rows of costs and capacities

-- a site that is found by a name has it
named : (name : List ℕ) (site : Site) → is_named name site ≡ true → site.name ≡ name
named name site e = sym ((bytes_eq-Decides name site.name).0 e)

-- costs without a fault are of known sites
pub costs_known : (sites : List Site) (n : ℕ) (rows : List CostEntry) → cost_fault sites n rows ≡ None
    → AllByRecursion IsCostEntry rows → AllByRecursion (IsCost sites) rows
costs_known sites n [] e all = tt
costs_known sites n (row ∷ rows) e all =
    let read : (site : Site) × (find (is_named row.site) sites ≡ Some site) × (cost_fault sites (n + 1) rows ≡ None) =
    grind arith in
    let at = found (is_named row.site) sites read.0 read.1 in (
      (all.0.region, (read.0, at.0, named row.site read.0 at.1), all.0.cost),
      costs_known sites (n + 1) rows read.2 all.1,
    )

-- the site of a name
site_found : (sites : List Site) (name : List ℕ) (site : Site) → IsDistinct same_name sites → Contains sites site
    → site.name ≡ name → find (is_named name) sites ≡ Some site
site_found sites name site apart is same =
    let alike =
    λ (a b : Site) (p : is_named name a ≡ true) (q : is_named name b ≡ true). (bytes_eq-Decides a.name b.name).1
    (named name a p ∙ sym (named name b q)) in
    finds same_name (is_named name) alike sites site apart is ((bytes_eq-Decides name site.name).1 (sym same))

-- costs of known sites have no fault
pub costs_have_no_fault : (sites : List Site) (n : ℕ) (rows : List CostEntry) → IsDistinct same_name sites
    → AllByRecursion (IsCost sites) rows → cost_fault sites n rows ≡ None
costs_have_no_fault sites n [] apart all = refl
costs_have_no_fault sites n (row ∷ rows) apart all =
    let site = all.0.1 in
    rw (site_found sites row.site site.0 apart site.1 site.2, costs_have_no_fault sites (n + 1) rows apart all.1) refl

-- capacities without a fault are of known servers
pub capacities_known : (sites : List Site) (n : ℕ) (rows : List CapacityEntry) → capacity_fault sites n rows ≡ None
    → AllByRecursion IsCapacityEntry rows
    → AllByRecursion (IsCapacity sites) rows
capacities_known sites n [] e all = tt
capacities_known sites n (row ∷ rows) e all =
    let read : (site : Site) × (find (is_named row.site) sites ≡ Some site) × (has_id row.server_id site.servers ≡ true)
    × (capacity_fault sites (n + 1) rows ≡ None) = grind arith in
    let (site, is, has, more) = read in
    let at = found (is_named row.site) sites site is in
    let (k, own, within, own_is, id) =
    Any-from_list_any (λ (server : SiteServer). server.id == row.server_id) site.servers has in (
      (
        site,
        own,
        at.0,
        named row.site site at.1,
        (k, within, own_is),
        (Decides-eqb own.id row.server_id).0 id,
        all.0.capacity,
      ),
      capacities_known sites (n + 1) rows more all.1,
    )

-- capacities of known servers have no fault
pub capacities_have_no_fault : (sites : List Site) (n : ℕ) (rows : List CapacityEntry) → IsDistinct same_name sites
    → AllByRecursion (IsCapacity sites) rows
    → capacity_fault sites n rows ≡ None
capacities_have_no_fault sites n [] apart all = refl
capacities_have_no_fault sites n (row ∷ rows) apart all =
    let (site, own, is_site, name, is_own, id, capacity) = all.0 in
    let (k, within, own_is) = is_own in
    let has =
    list_any-from_Any (λ (server : SiteServer). server.id == row.server_id) site.servers
    (k, own, within, own_is, (Decides-eqb own.id row.server_id).1 id) in
    rw (site_found sites row.site site apart is_site name, has, capacities_have_no_fault sites (n + 1) rows apart all.1)
    refl

-- ---- sites

-- sites that are stated keep to the rules of a site
pub sites_of_instance : (values : Option (List HandleValue)) (items : Items) (sites : List Site)
    → EachStates (StatesSite values) items sites → AllByRecursion IsSite sites
sites_of_instance values toml.no_items [] tell = tt
sites_of_instance values toml.no_items (site ∷ sites) tell = absurd tell
sites_of_instance values (toml.item value items) [] tell = absurd tell
sites_of_instance values (toml.item value items) (site ∷ sites) tell =
    let of = tell.2.spelled in
    let each : AllByRecursion IsSiteServer (map server_of_record of.read.servers) =
    all_map records.IsServer IsSiteServer server_of_record of.read.servers
    (λ server is. record { id = is.id; address = is.address.0 }) of.is.0.1.1 in (
      record { name = tell.2.is_name; servers = rw of.servers each; apart = of.apart },
      sites_of_instance values items sites tell.3,
    )

-- rows of the page are rows of the tables
pub cost_entries : (sites : List Site) (rows : List CostEntry) → AllByRecursion IsSite sites
    → AllByRecursion (IsCost sites) rows → AllByRecursion IsCostEntry rows
cost_entries sites [] are all = tt
cost_entries sites (row ∷ rows) are all =
    let site = all.0.1 in
    let is = all_of IsSite sites site.0 are site.1 in
    (record { region = all.0.0; site = rw site.2 at is.name; cost = all.0.2 }, cost_entries sites rows are all.1)

-- capacities of known servers keep to their limits
pub capacity_entries : (sites : List Site) (rows : List CapacityEntry) → AllByRecursion IsSite sites
    → AllByRecursion (IsCapacity sites) rows → AllByRecursion IsCapacityEntry rows
capacity_entries sites [] are all = tt
capacity_entries sites (row ∷ rows) are all =
    let (site, own, is_site, name, is_own, id, capacity) = all.0 in
    let is = all_of IsSite sites site are is_site in
    let server = all_of IsSiteServer site.servers own is.servers is_own in (
      record { site = rw name at is.name; server_id = omega (arith, server.id, id); capacity = capacity },
      capacity_entries sites rows are all.1,
    )

-- ---- servers

abbrev pub HasCapacity : List CapacityEntry → List ℕ → SiteServer → Type 0
HasCapacity rows name own = (c : ℕ) × (capacity_of rows name own.id ≡ Some c)

-- servers that have a capacity are built, site by site
own_built : (rows : List CapacityEntry) (hosts : List Host) (n : ℕ) (name : List ℕ) (place : ℕ) (earlier : List Server)
    (owns : List SiteServer)
    → AllByRecursion (HasCapacity rows name) owns
    → (servers : List Server) × (servers_at rows hosts n name place earlier owns ≡ Ok servers)
own_built rows hosts n name place earlier [] all = (earlier, refl)
own_built rows hosts n name place earlier (own ∷ owns) all =
    rw all.0.1 (own_built rows hosts n name (place + 1) _ owns all.1)

-- where each server has a capacity, all are built
pub servers_built : (rows : List CapacityEntry) (hosts : List Host) (n : ℕ) (earlier : List Server) (sites : List Site)
    → AllByRecursion (λ (site : Site). AllByRecursion (HasCapacity rows site.name) site.servers) sites
    → (servers : List Server) × (servers_from rows hosts n earlier sites ≡ Ok servers)
servers_built rows hosts n earlier [] all = (earlier, refl)
servers_built rows hosts n earlier (site ∷ sites) all =
    let own = own_built rows hosts n site.name 0 earlier site.servers all.0 in
    rw own.1 (servers_built rows hosts (n + 1) own.0 sites all.1)
