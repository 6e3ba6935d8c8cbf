-- Inputs that differ in counts, capacities and limits only have networks that do, and printed prices say of them what
-- prices say.
use Rattle.std.proofs.Common.{◌≡◌, ℕ, ◌+◌, ◌<◌, ◌≤◌, ◌∙◌, List, [], ◌∷◌, ◌++◌, length, map, Some, None, slice_index_or}
use Rattle.std.proofs.Common.{Ok, refl, ap, ap₂, sym, subst, arith}
use Rattle.std.specs.List.{position_from, slice_get}
use Rattle.std.proofs.lemmas.List.{ext_get_or, get_or-map, length-map}
use Rattle.std.proofs.lemmas.List.Elements.{All-from_recursion}
use Rattle.std.proofs.lemmas.Option.{get_or_from_slice_get, slice_get-get_or}
use Rattle.hsp_names.specs.Handle.{ReadingsAreHandles}
use Rattle.hsp_csv.specs.Records.{records_of}
use Rattle.hsp_tables.specs.Costs.{CostEntry, cost_table}
use Rattle.hsp_tables.specs.Table.{table_of}
use Rattle.hsp_tables.specs.declared.limits.Limits.{Limits}
use Rattle.hsp_tables.specs.declared.limits.Limits.TheVariants.{Logs}
use Rattle.hsp_tables.proofs.TableRows as table_rows
use Rattle.hsp_instance.specs.Building as building
use Rattle.hsp_instance.specs.Building.{arc_to, arcs_from, cost_of, is_at}
use Rattle.hsp_instance.specs.Instance.{Host, Instance, IsInstance, IsServer, Row, Server, Site, number_at}
use Rattle.hsp_instance.specs.Parts.{HasPartsOf}
use Rattle.hsp_instance.proofs.BuiltParts.{BuiltOf, built_has_its_parts, built_of}
use Rattle.hsp_check.specs.Claims.{with_numbers}
use Rattle.hsp_check.specs.Instance.{capacities_in, demands_in, limits_in, network_of, server_hosts_in}
use Rattle.hsp_check.specs.Network.{IsNetwork}
use Rattle.hsp_check.specs.Plan.{Feasible, total}
use Rattle.hsp_check.specs.Uses.{table}
use Rattle.hsp_transport.specs.Sums.{times}
use Rattle.hsp_check.proofs.Changes.{one_change_is_priced, prices_bound_changes}
use Rattle.hsp_check.proofs.InstanceNetwork.{is_network}
use Rattle.hsp_inputs.specs.declared.inputs.Inputs.{Inputs}
use Rattle.hsp_inputs.specs.Limits.{limits_of}
use Rattle.hsp_inputs.proofs.Page.{Holds, is_read, is_within}
use Rattle.hsp_runs.specs.Pricing.{DifferInNumbers, PrintedPricesAnswer, without_count, without_limit}

-- ---- arcs go by rows without their counts

-- arcs do not depend on counts
arcs_without : (costs : List CostEntry) (row : Row) (n first : ℕ) (sites : List Site)
    → arcs_from costs row n first sites ≡ arcs_from costs (without_count row) n first sites
arcs_without costs row n first [] = refl
arcs_without costs row n first (site ∷ more) =
    ap (λ arcs. arc_to row.handle n first site (cost_of costs row.region site.name) ++ arcs)
    (arcs_without costs row (n + 1) (first + length site.servers) more)

-- nor do all lists of arcs
lists_without : (costs : List CostEntry) (sites : List Site) (rows : List Row)
    → map (λ row. arcs_from costs row 0 0 sites) rows
    ≡ map (λ row. arcs_from costs row 0 0 sites) (map without_count rows)
lists_without costs sites [] = refl
lists_without costs sites (row ∷ rows) =
    ap₂ (λ arcs lists. arcs ∷ lists) (arcs_without costs row 0 0 sites) (lists_without costs sites rows)

-- ---- and servers' hosts by hosts without their limits

-- the place of a host does not depend on limits
place_without : (address : List ℕ) (n : ℕ) (hosts : List Host)
    → position_from (is_at address) n hosts ≡ position_from (is_at address) n (map without_limit hosts)
place_without address n [] = refl
place_without address n (host ∷ hosts) = grind (arith, place_without address (n + 1) hosts)

-- a server that stands for none
no_server : Server
no_server = record { site = 0; place = 0; id = 0; capacity = 0; host = None }

-- two instances of the same sites, each with its parts, whose hosts have the same addresses
module _ (read other-read : building.Inputs) (it other : Instance) (is : IsInstance it) (parts : HasPartsOf read it)
    (other-parts : HasPartsOf other-read other)
    (sites : it.sites ≡ other.sites) (hosts : map without_limit it.hosts ≡ map without_limit other.hosts) where
  -- an address stands at the same place in both
  same_place : (address : List ℕ)
      → position_from (is_at address) 0 it.hosts ≡ position_from (is_at address) 0 other.hosts
  same_place address =
      place_without address 0 it.hosts ∙ ap (position_from (is_at address) 0) hosts
      ∙ sym (place_without address 0 other.hosts)

  -- both have as many servers
  many : length it.servers ≡ length other.servers
  many = parts.server_count ∙ ap Rattle.hsp_instance.specs.Instance.servers_of sites ∙ sym other-parts.server_count

  -- a server stands on the same host in both
  same_host : (i : ℕ) → i < length it.servers
      → (slice_index_or it.servers i no_server).host ≡ (slice_index_or other.servers i no_server).host
  same_host i l =
      let server = slice_index_or it.servers i no_server in
      let here : slice_get it.servers i ≡ Some server = slice_get-get_or it.servers i no_server l in
      let stands =
      (All-from_recursion (IsServer it.sites (length it.hosts)) it.servers is.servers.each i no_server l).place in
      let number : i ≡ number_at it.sites server.site server.place = is.servers.number i server here in
      let a = parts.servers server.site server.place stands.site stands.own stands.is_site stands.is_own in
      let b =
      other-parts.servers server.site server.place stands.site stands.own (rw (← sites) stands.is_site)
      stands.is_own in
      let in-it : server ≡ a.server =
      get_there it.servers i server a.server here (ap (slice_get it.servers) number ∙ a.is_server) in
      let in-other : slice_index_or other.servers i no_server ≡ b.server =
      get_or_from_slice_get other.servers i b.server no_server
      (ap (slice_get other.servers) (number ∙ ap (λ s. number_at s server.site server.place) sites)
      ∙ b.is_server) in
      ap (λ (s : Server). s.host) in-it ∙ a.is_of.host ∙ same_place stands.own.address ∙ sym b.is_of.host
      ∙ sym (ap (λ (s : Server). s.host) in-other)
    where
      get_there : (xs : List Server) (i : ℕ) (x y : Server) → slice_get xs i ≡ Some x → slice_get xs i ≡ Some y → x ≡ y
      get_there xs i x y a b = sym (get_or_from_slice_get xs i x no_server a) ∙ get_or_from_slice_get xs i y no_server b

  -- so do all servers
  pub same_hosts : server_hosts_in it ≡ server_hosts_in other
  same_hosts =
      ext_get_or None (server_hosts_in it) (server_hosts_in other)
      (length-map it.servers (λ (s : Server). s.host) ∙ many ∙ sym (length-map other.servers (λ (s : Server). s.host)))
      (λ i l.
      let inside : i < length it.servers = omega (arith, l, length-map it.servers (λ (s : Server). s.host)) in
      get_or-map (λ (s : Server). s.host) it.servers i no_server None inside ∙ same_host i inside
      ∙ sym (get_or-map (λ (s : Server). s.host) other.servers i no_server None (omega (arith, inside, many))))

-- ---- the networks, and what prices say

-- costs that are read within any limits are read within those beside a log
read_widely : (limits : Limits) (text : List ℕ) (rows : List CostEntry)
    → table_of (cost_table limits) (records_of text) ≡ Ok rows → table_of (cost_table Logs) (records_of text) ≡ Ok rows
read_widely limits text rows e =
    let (is, are) = (table_rows.costs_are limits (records_of text) rows).0 e in
    (table_rows.costs_are Logs (records_of text) rows).1 (is, table_rows.costs_fit limits rows are)

module _ (inputs others : Inputs) (it other : Instance) (read other-read : building.Inputs) (holds : Holds inputs read)
    (other-holds : Holds others other-read)
    (of : BuiltOf read it) (other-of : BuiltOf other-read other) (differ : DifferInNumbers inputs others it other) where
  -- both have the same costs
  same_costs : read.costs ≡ other-read.costs
  same_costs =
      let a = read_widely (limits_of inputs) inputs.costs.items read.costs holds.costs in
      let b = read_widely (limits_of others) others.costs.items other-read.costs other-holds.costs in
      let c = rw (← differ.costs) at b in cc (a, c)

  -- both have the same arcs
  pub same_arcs : it.arcs ≡ other.arcs
  same_arcs =
      of.arcs ∙ lists_without read.costs it.sites it.rows
      ∙ ap (λ rows. map (λ row. arcs_from read.costs row 0 0 it.sites) rows) differ.rows
      ∙ ap₂ (λ costs sites. map (λ row. arcs_from costs row 0 0 sites) (map without_count other.rows)) same_costs
      differ.sites
      ∙ sym (lists_without other-read.costs other.sites other.rows) ∙ sym other-of.arcs

-- printed prices bound the plans of inputs that differ in numbers only
pub printed_prices_answer : ReadingsAreHandles → PrintedPricesAnswer
printed_prices_answer handles inputs others it other octets plan defined other-defined differ spelled =
    let (read, holds, built) = is_read handles inputs it defined in
    let (other-read, other-holds, other-built) = is_read handles others other other-defined in
    let is = is_within inputs read it holds built defined in
    let other-is = is_within others other-read other other-holds other-built other-defined in
    let arcs =
    same_arcs inputs others it other read other-read holds other-holds (built_of read it built)
    (built_of other-read other other-built) differ in
    let hosts =
    same_hosts read other-read it other is (built_has_its_parts read it built)
    (built_has_its_parts other-read other other-built) differ.sites differ.hosts in
    let changed = with_numbers (network_of it) (demands_in other) (capacities_in other) (limits_in other) in
    let numbers : network_of other ≡ changed = rw (arcs, hosts) refl in
    let shown = spelled.holds in
    record {
      numbers = numbers;
      bound = λ y feasible.
          let a = subst IsNetwork numbers (is_network other other-is) in
          subst
          (λ n. times (demands_in other) plan.row_prices
          ≤ total n y + (times (capacities_in other) plan.server_prices + times (limits_in other) plan.host_prices))
          (sym numbers)
          (prices_bound_changes (network_of it) (table plan.uses) plan.row_prices plan.server_prices plan.host_prices
          shown.prices (demands_in other) (capacities_in other) (limits_in other) a y
          (subst (λ n. Feasible n y) numbers feasible));
      one_change =
          one_change_is_priced (network_of it) (table plan.uses) plan.row_prices plan.server_prices plan.host_prices
          (is_network it is) shown.best.feasible shown.prices;
    }
