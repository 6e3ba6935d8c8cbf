-- The limits of an instance, for its network.
use Rattle.std.proofs.Common.{◌≡◌, ℕ, ◌+◌, ◌*◌, ◌<◌, ◌≤◌, ◌∙◌, Bool, List, [], ◌∷◌, length, map, sum_by, slice_index}
use Rattle.std.proofs.Common.{slice_index_or, ap, sym, subst, inl, inr, arith}
use Rattle.std.specs.Prelude.{Some, None}
use Rattle.std.specs.List.{AllByRecursion}
use Rattle.std.proofs.Math.Nat.{le_trans, mul-le-mul_right}
use Rattle.std.proofs.lemmas.List.{length-map, get_or-map}
use Rattle.std.proofs.lemmas.List.Elements.{All-from_get_or}
use Rattle.std.proofs.lemmas.Option.{slice_get_within}
use Rattle.std.proofs.lemmas.Bool.{cases_Bool}
use Rattle.hsp_network.specs.Sums.{sum_below}
use Rattle.hsp_instance.specs.declared.arc.Arc.{Arc}
use Rattle.hsp_instance.specs.Instance.{Instance, Row, Server, Host, IsInstance, IsArc, AreArcs, IsAscending, IsCounted}
use Rattle.hsp_instance.specs.Instance.{IsServer, IsHostOf}
use Rattle.hsp_check.specs.declared.arc.NetworkArc.{NetworkArc}
use Rattle.hsp_check.specs.Instance.{arc_of, arcs_from, network_of}
use Rattle.hsp_check.specs.Plan.{Plan, Feasible, planned, served, total}
use Rattle.hsp_instance.proofs.Lists.{all_at}
use Rattle.hsp_transport.specs.Lists.{HostsAreBelow}
use Rattle.hsp_transport.proofs.Places.{hosts_below}
use Rattle.hsp_transport.proofs.Summing.{sum_by_le_all, by_key}
use Rattle.hsp_network.specs.Layout.{IsSmall}
use Rattle.hsp_network.specs.Network.{IsNetwork, host_of, numbered}
use Rattle.hsp_transport.specs.Cut.{demand_of}
use Rattle.hsp_flow.specs.Nodes.{nodes_of}
use Rattle.hsp_flow.specs.Planning.{transport_of, transport_over, row_of, server_of, cost_of}
use Rattle.hsp_flow.proofs.Ordering.{no_arc, each_at, all_ordered, rows_between, rows_ordered, arcs_many}
use Rattle.hsp_flow.proofs.Bridging.{arc}
use Rattle.hsp_network.proofs.AddingUp.{sum_below_low}
use Rattle.hsp_text.proofs.Lists.{all_append}
use Rattle.hsp_instance.proofs.Lists.{all_so}

-- two facts of each element are facts of all
pub each_both : {A : Type 0} (P Q : A → Type 0) (xs : List A) → AllByRecursion P xs → AllByRecursion Q xs
    → AllByRecursion (λ x. P x × Q x) xs
each_both P Q [] h k = tt
each_both P Q (x ∷ xs) h k = ((h.0, k.0), each_both P Q xs h.1 k.1)

-- a row that stands for none
no_row : Row
no_row = record { region = []; handle = []; count = 0 }

-- a server that stands for none
no_server : Server
no_server = record { site = 0; place = 0; id = 0; capacity = 0; host = None }

-- an arc's ends and cost are within their limits
pub record Fits (it : Instance) (a : NetworkArc) : Type 0 where
  pub server : a.server < length it.servers
  pub site : a.site ≤ 31
  pub cost : a.cost ≤ 1000000

module _ (it : Instance) (is : IsInstance it) where
  -- no row asks for more than a million
  pub counts_low : (i : ℕ) → i < length (transport_of it).demands → slice_index (transport_of it).demands i ≤ 1000000
  counts_low i l =
      let inside : i < length it.rows = omega (arith, l, length-map it.rows (λ (r : Row). r.count)) in
      let at : slice_index (transport_of it).demands i ≡ (slice_index_or it.rows i no_row).count =
      get_or-map (λ (r : Row). r.count) it.rows i no_row 0 inside in
      omega (arith, at, each_at IsCounted it.rows i no_row inside is.rows.each)

  -- an arc of a row leads to a server of its site, at a cost within the limit
  fits_one : (i : ℕ) (a : Arc) → IsArc it.servers a → Fits it (arc_of i a)
  fits_one i a h =
      let own = all_at (IsServer it.sites (length it.hosts)) it.servers a.server h.server is.servers.each h.is_server in
      let there = slice_get_within it.sites h.server.site own.place.site own.place.is_site in
      record {
        server = slice_get_within it.servers a.server h.server h.is_server;
        site = omega (arith, h.same_site, there, is.sites.few);
        cost = h.cost;
      }

  -- so does each arc of a row
  fits_row : (i : ℕ) (arcs : List Arc) → AllByRecursion (IsArc it.servers) arcs
      → AllByRecursion (Fits it) (map (arc_of i) arcs)
  fits_row i [] h = tt
  fits_row i (a ∷ arcs) h = (fits_one i a h.0, fits_row i arcs h.1)

  -- so does each arc of all rows
  fits_all : (i : ℕ) (lists : List (List Arc)) → AllByRecursion (AreArcs it.servers) lists
      → AllByRecursion (Fits it) (arcs_from i lists)
  fits_all i [] h = tt
  fits_all i (arcs ∷ rest) h =
      all_append (Fits it) (map (arc_of i) arcs) (arcs_from (i + 1) rest) (fits_row i arcs h.0.each)
      (fits_all (i + 1) rest h.1)

  -- rows and sites are within the limits of uses
  pub small_ends : AllByRecursion (λ (a : NetworkArc). (a.row ≤ 8191) × (a.site ≤ 31)) (arcs_from 0 it.arcs)
  small_ends =
      all_so (λ (a : NetworkArc). Fits it a × ((0 ≤ a.row) × (a.row < 0 + length it.arcs)))
      (λ (a : NetworkArc). (a.row ≤ 8191) × (a.site ≤ 31)) (arcs_from 0 it.arcs)
      (λ a h. (omega (arith, h.1.1, is.one_list_a_row, is.rows.few), h.0.site))
      (each_both (Fits it) (λ (a : NetworkArc). (0 ≤ a.row) × (a.row < 0 + length it.arcs)) (arcs_from 0 it.arcs)
      (fits_all 0 it.arcs is.arcs) (rows_between 0 it.arcs))

  -- each server stands on a listed host or on none
  host_there : HostsAreBelow (length (transport_of it).limits) (transport_of it).hosts
  host_there = hosts_below (length (transport_of it).limits) (transport_of it).hosts (λ j h l e.
      let inside : j < length it.servers = omega (arith, l, length-map it.servers (λ (s : Server). s.host)) in
      let at : host_of (transport_of it) j ≡ (slice_index_or it.servers j no_server).host =
      get_or-map (λ (s : Server). s.host) it.servers j no_server None inside in
      let on : IsHostOf (length it.hosts) (Some h) =
      subst (IsHostOf (length it.hosts)) (sym at ∙ e)
      ((each_at (IsServer it.sites (length it.hosts)) it.servers j no_server inside is.servers.each).host) in
      omega (arith, on, length-map it.hosts (λ (x : Host). x.limit)))

module _ (it : Instance) (is : IsInstance it) (lists : List (List Arc))
    (each : AllByRecursion (AreArcs it.servers) lists) where
  -- so does the arc of each number
  pub fits_at : (k : ℕ) → k < length (arcs_from 0 lists) → Fits it (arc (arcs_from 0 lists) k)
  fits_at k l = each_at (Fits it) (arcs_from 0 lists) k no_arc l (fits_all it is 0 lists each)

  -- the arc of each number is of a row that is there
  pub row_at : (k : ℕ) → k < length (arcs_from 0 lists) → (arc (arcs_from 0 lists) k).row < length lists
  row_at k l =
      omega (
        arith,
        (each_at (λ a. (0 ≤ a.row) × (a.row < 0 + length lists)) (arcs_from 0 lists) k no_arc l
            (rows_between 0 lists)).1,
      )

  -- there are at most 32 arcs a row
  few_over : length (arcs_from 0 lists) ≤ 32 * length lists
  few_over =
      arcs_many 0 lists (all_so (AreArcs it.servers) (λ arcs. length arcs ≤ 32) lists (λ arcs h. h.few) each)

  -- the number of a row's arc is that of an arc
  inside : (k : ℕ) → k < length (map row_of (arcs_from 0 lists)) → k < length (arcs_from 0 lists)
  inside k l = omega (arith, length-map (arcs_from 0 lists) row_of)

  -- the end or the cost of an arc, by its place in their list
  at : (part : NetworkArc → ℕ) (k : ℕ) → k < length (map row_of (arcs_from 0 lists))
      → slice_index (map part (arcs_from 0 lists)) k ≡ part (arc (arcs_from 0 lists) k)
  at part k l = get_or-map part (arcs_from 0 lists) k no_arc 0 (inside k l)

  -- no arc costs more than a million
  cost_low : (k : ℕ) → k < length (map row_of (arcs_from 0 lists))
      → slice_index (map cost_of (arcs_from 0 lists)) k ≤ 1000000
  cost_low k l = omega (arith, at cost_of k l, (fits_at k (inside k l)).cost)

  module _ (demands : List ℕ) (many : length demands ≡ length lists) where
    -- the arcs make a network whose numbers fit
    pub over_is : IsNetwork (transport_over it demands (arcs_from 0 lists))
    over_is = record {
      hosts_many =
          length-map it.servers (λ (s : Server). s.host) ∙ sym (length-map it.servers (λ (s : Server). s.capacity));
      servers_many = length-map (arcs_from 0 lists) server_of ∙ sym (length-map (arcs_from 0 lists) row_of);
      costs_many = length-map (arcs_from 0 lists) cost_of ∙ sym (length-map (arcs_from 0 lists) row_of);
      sources_in = λ k l. omega (arith, at row_of k l, row_at k (inside k l));
      servers_in =
          λ k l.
          omega (
            arith,
            at server_of k l,
            (fits_at k (inside k l)).server,
            length-map it.servers (λ (s : Server). s.capacity),
          );
      hosts_in = host_there it is;
      ordered =
          λ j k le l.
          omega (
            arith,
            at row_of j (omega arith),
            at row_of k l,
            rows_ordered (arcs_from 0 lists) (all_ordered 0 lists ascending) j k le (inside k l),
          );
    }
      where
        ascending : AllByRecursion IsAscending lists
        ascending = all_so (AreArcs it.servers) IsAscending lists (λ arcs h. h.ascending) each

    -- the solver's numbers have room for it
    pub over_small : length lists ≤ 8192 → ((i : ℕ) → i < length demands → slice_index demands i ≤ 8192000000)
        → IsSmall (transport_over it demands (arcs_from 0 lists))
    over_small few low =
        let hosts = length-map it.hosts (λ (h : Host). h.limit) in
        let servers = length-map it.servers (λ (s : Server). s.capacity) in
        let n = 1 + length (transport_of it).limits + length (transport_of it).capacities + length demands + 1 in
        let nodes : n ≤ 10242 = omega (arith, hosts, servers, is.hosts.few, is.servers.few) in
        record {
          few = omega (arith, nodes);
          few_arcs =
              omega
              (arith, hosts, servers, is.hosts.few, is.servers.few, length-map (arcs_from 0 lists) row_of, few_over);
          cheap = λ k l.
              let cost = slice_index (map cost_of (arcs_from 0 lists)) k in
              let one : n * cost ≤ 10242000000 = le_trans (mul-le-mul_right cost nodes) (omega (arith, cost_low k l)) in
              omega (arith, one);
          low = λ i l. omega (arith, low i l);
        }

module _ (it : Instance) (is : IsInstance it) where
  -- each row has a demand
  rows_many : length (transport_of it).demands ≡ length it.rows
  rows_many = length-map it.rows (λ (r : Row). r.count)

  -- there are no more arcs than 8,192 rows and 32 sites make
  pub few_arcs : length (arcs_from 0 it.arcs) ≤ 262144
  few_arcs = omega (arith, few_over it is it.arcs is.arcs, is.one_list_a_row, is.rows.few)

  -- no source has an arc above a million
  pub costs_low : (k : ℕ) → k < length (transport_of it).sources → slice_index (transport_of it).costs k ≤ 1000000
  costs_low = cost_low it is it.arcs is.arcs

  -- an instance has a network whose numbers fit
  pub network_is : IsNetwork (transport_of it)
  network_is = over_is it is it.arcs is.arcs (transport_of it).demands (rows_many ∙ sym is.one_list_a_row)

  -- its costs and demands are small
  pub small_is : IsSmall (transport_of it)
  small_is =
      over_small it is it.arcs is.arcs (transport_of it).demands (rows_many ∙ sym is.one_list_a_row)
      (omega (arith, is.one_list_a_row, is.rows.few))
      (λ i l. omega (arith, counts_low it is i l))

  -- what a set of rows demands is within it, too
  pub demand_low : (set : ℕ → Bool) → demand_of (numbered (transport_of it)) set ≤ 8192000000
  demand_low set =
      let low : demand_of (numbered (transport_of it)) set ≤ length (transport_of it).demands * 1000000 =
      sum_below_low (length (transport_of it).demands) _ 1000000
      (λ i l. elim (cases_Bool (set i)) [ inl t ↦ rw t (counts_low it is i l) | inr f ↦ rw f (omega arith) ]) in
      omega (arith, rows_many, is.rows.few)

  -- what a feasible plan costs is within the range of a certificate
  pub total_low : (x : Plan) → Feasible (network_of it) x → total (network_of it) x ≤ 8192000000000000
  total_low x feasible =
      let dear : total (network_of it) x ≤ sum_by (λ (a : NetworkArc). 1000000 * planned x a) (arcs_from 0 it.arcs) =
      sum_by_le_all (λ (a : NetworkArc). a.cost * planned x a) (λ (a : NetworkArc). 1000000 * planned x a)
      (arcs_from 0 it.arcs)
      (All-from_get_or (λ (a : NetworkArc). a.cost * planned x a ≤ 1000000 * planned x a) (arcs_from 0 it.arcs) no_arc
      (λ k l.
      mul-le-mul_right (planned x (arc (arcs_from 0 it.arcs) k)) (fits_at it is it.arcs is.arcs k l).cost)) in
      let keyed : sum_by (λ (a : NetworkArc). 1000000 * planned x a) (arcs_from 0 it.arcs)
      ≡ sum_below (length (transport_of it).demands) (λ k. 1000000 * served (network_of it) x k) =
      by_key (λ (a : NetworkArc). a.row) (λ (a : NetworkArc). planned x a) (λ _. 1000000)
      (length (transport_of it).demands) (arcs_from 0 it.arcs)
      (All-from_get_or (λ (a : NetworkArc). a.row < length (transport_of it).demands) (arcs_from 0 it.arcs) no_arc
      (λ k l. omega (arith, row_at it is it.arcs is.arcs k l, rows_many, is.one_list_a_row))) in
      let low : sum_below (length (transport_of it).demands) (λ k. 1000000 * served (network_of it) x k)
      ≤ length (transport_of it).demands * 1000000000000 =
      sum_below_low (length (transport_of it).demands) (λ k. 1000000 * served (network_of it) x k) 1000000000000
      (λ k l. omega (arith, feasible.flow.met k l, counts_low it is k l)) in
      omega (arith, dear, keyed, low, rows_many, is.rows.few)

-- how many nodes its network has
pub few_nodes : (it : Instance) (demands capacities limits : List ℕ) → length demands ≡ length it.rows
    → capacities ≡ map (λ s. s.capacity) it.servers → limits ≡ map (λ h. h.limit) it.hosts →
    (n : ℕ) → n ≤ 1 + length limits + length capacities + length demands → n ≤ nodes_of it
few_nodes it demands capacities limits many servers hosts n l =
    let servers_many : length capacities ≡ length it.servers =
    ap (λ (xs : List ℕ). length xs) servers ∙ length-map it.servers (λ (s : Server). s.capacity) in
    let hosts_many : length limits ≡ length it.hosts =
    ap (λ (xs : List ℕ). length xs) hosts ∙ length-map it.hosts (λ (h : Host). h.limit) in
    omega (arith, l, many)
