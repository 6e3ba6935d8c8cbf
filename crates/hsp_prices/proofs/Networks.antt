-- The networks of rows and of their table, with all arcs and with the least ones.
use Rattle.std.proofs.Common.{◌≡◌, ℕ, ◌+◌, ◌*◌, ◌<◌, ◌≤◌, ◌∙◌, List, length, map, All, Some, None}
use Rattle.std.proofs.Common.{filter, slice_index, slice_index_or, refl, ap, sym, subst, arith, zero-add, one-mul}
use Rattle.std.specs.List.{AllByRecursion, slice_get}
use Rattle.std.proofs.lemmas.List.{length-map, get_or-map}
use Rattle.std.proofs.lemmas.List.Elements.{All-from_recursion, All-map, All-weaker}
use Rattle.std.proofs.lemmas.Option.{get_or_from_slice_get}
use Rattle.hsp_transport.specs.Kinds.{Link}
use Rattle.hsp_transport.proofs.ArcsBySource.{of_all}
use Rattle.hsp_instance.specs.Instance.{Host, IsHostOf, IsServer, Row, Server}
use Rattle.hsp_instance.specs.declared.arc.Arc.{Arc}
use Rattle.hsp_instance.proofs.ArcLists.{arcs_ascending}
use Rattle.hsp_instance.proofs.Lists.{all_so}
use Rattle.hsp_check.specs.declared.arc.NetworkArc.{NetworkArc}
use Rattle.hsp_check.specs.ArcFlows.{host_in}
use Rattle.hsp_check.specs.Network.{IsNetwork, Network, site_of, transport}
use Rattle.hsp_check.proofs.RowLinks.{link, rows_below}
use Rattle.hsp_prices.specs.Kinds.{AreKinds, ArePricesOfKinds, HasOneArcASite}
use Rattle.hsp_prices.specs.Rows.{Service, network_by, network_for}
use Rattle.hsp_prices.proofs.ByTables.{are_kinds, in_rows, links_are, no_row, one_arc, place_of, place_same}
use Rattle.hsp_prices.proofs.ByTables.{place_there, row_at}
use Rattle.hsp_price_text.specs.Claim.{Best}
use Rattle.hsp_prices.specs.Bounds.{HasNoNegativeReducedCost}
use Rattle.hsp_prices.specs.Classes.{Keep}
use Rattle.hsp_prices.specs.Kept.{kept}
use Rattle.hsp_prices.specs.Least.{arcs_of, is_least, least_of, pay_over, price_at}
use Rattle.hsp_prices.specs.Shown.{IsService}
use Rattle.hsp_prices.specs.Sums.{first_pay, least_pay}
use Rattle.hsp_prices.proofs.ClassKinds.{by_class, classes_are_kinds, least_ascend, same_least}
use Rattle.hsp_prices.proofs.Flows.{class_table}
use Rattle.hsp_prices.proofs.LeastPay.{kept_by_site, kept_rows, leads, no_less}
use Rattle.hsp_prices.proofs.ServerArcs.{IsOwn, own_arcs}
use Rattle.hsp_prices.proofs.Sites.{one_to_site}

module _ (at : Service) (is : IsService at) where
  -- each host of a server is a listed one
  hosts_there : (j h : ℕ) → j < length (map (λ (s : Server). s.capacity) at.servers)
      → host_in (map (λ (s : Server). s.host) at.servers) j ≡ Some h
      → h < length (map (λ (h : Host). h.limit) at.hosts)
  hosts_there j h l on =
      let no_server : Server = record { site = 0; place = 0; id = 0; capacity = 0; host = None } in
      let inside : j < length at.servers = rw (length-map at.servers (λ (s : Server). s.capacity)) at l in
      let host : (slice_index_or at.servers j no_server).host ≡ Some h =
      sym (get_or-map (λ (s : Server). s.host) at.servers j no_server None inside) ∙ on in
      let server =
      All-from_recursion (IsServer at.sites (length at.hosts)) at.servers is.servers.each j no_server inside in
      rw (length-map at.hosts (λ (h : Host). h.limit)) (subst (λ o. IsHostOf (length at.hosts) o) host server.host)

  -- rows whose arcs lead to servers that are there have a network
  pub network_there : (arcs : Row → List Arc) → ((row : Row) → AllByRecursion (IsOwn at row.region) (arcs row))
      → (list : List Row) → IsNetwork (network_by at arcs list)
  network_there arcs own list = record {
    sources = below;
    servers =
        of_all site_of (transport (network_by at arcs list))
        (λ i a. a.server < length (map (λ (s : Server). s.capacity) at.servers))
        (length (map (λ (r : Row). r.count) list)) (network_by at arcs list).arcs below (λ i l.
        subst (All (λ (a : Link). a.server < length (map (λ (s : Server). s.capacity) at.servers)))
        (sym (links_are at arcs list i (in_rows at arcs list i l)))
        (All-map (λ (a : Link). a.server < length (map (λ (s : Server). s.capacity) at.servers)) link
        (arcs (row_at list i)) (there (row_at list i))));
    hosts = hosts_there;
  }
    where
      below : All (λ (a : NetworkArc). a.row < length (map (λ (r : Row). r.count) list)) (network_by at arcs list).arcs
      below =
          rows_below (map arcs list) 0 (length (map (λ (r : Row). r.count) list))
          (omega (arith, length-map list (λ (r : Row). r.count), length-map list arcs))

      there : (row : Row)
          → All (λ (a : Arc). a.server < length (map (λ (s : Server). s.capacity) at.servers)) (arcs row)
      there row =
          All-from_recursion (λ (a : Arc). a.server < length (map (λ (s : Server). s.capacity) at.servers)) (arcs row)
          (all_so (IsOwn at row.region) (λ (a : Arc). a.server < length (map (λ (s : Server). s.capacity) at.servers))
          (arcs row) (λ a o. omega (arith, o.there, length-map at.servers (λ (s : Server). s.capacity))) (own row))

module _ (at : Service) (plan : Best) (rows : List Row) where
  -- a row keeps a site where one of its least arcs leads
  abbrev pub keeps_least : Keep
  keeps_least i s =
      leads (is_least (pay_over at plan) (arcs_of at (row_at rows i))) (arcs_of at (row_at rows i)) s

  -- the arcs that rows keep are their least ones
  least_are_kept : (i : ℕ) (row : Row) → slice_get rows i ≡ Some row
      → filter (λ (a : Arc). keeps_least (0 + i) a.site) (arcs_of at row) ≡ least_of at plan row
  least_are_kept i row here =
      let own : row_at rows (0 + i) ≡ row =
      ap (row_at rows) (zero-add i) ∙ get_or_from_slice_get rows i row no_row here in
      subst
      (λ (r : Row). filter (λ (a : Arc). leads (is_least (pay_over at plan) (arcs_of at r)) (arcs_of at r) a.site)
      (arcs_of at row) ≡ least_of at plan row)
      (sym own)
      (kept_by_site (is_least (pay_over at plan) (arcs_of at row)) (arcs_of at row)
      (arcs_ascending at.costs row 0 0 at.sites))

  -- the network of the kept arcs is that of the least arcs
  kept_network : kept (network_for at rows) keeps_least ≡ network_by at (least_of at plan) rows
  kept_network =
      let with : List NetworkArc → Network = λ arcs. record {
        demands = (network_for at rows).demands;
        capacities = (network_for at rows).capacities;
        limits = (network_for at rows).limits;
        host_of = (network_for at rows).host_of;
        arcs = arcs;
      } in
      ap with
      (kept_rows (λ (a : NetworkArc). keeps_least a.row a.site) (arcs_of at) (least_of at plan) 0 rows least_are_kept)

  -- the class of a row is a place of the table
  abbrev pub class_of : ℕ → ℕ
  class_of = place_of (by_class at plan) (classes_are_kinds at plan) (λ a b. refl) rows

  -- at most one least arc of a row leads to a site
  pub one_least : (list : List Row) → HasOneArcASite (network_by at (least_of at plan) list)
  one_least list =
      one_arc at (least_of at plan) list (λ row s. one_to_site (least_of at plan row) (least_ascend at plan row) s)

  module _ (is : IsService at) where
    -- the table is one of the kinds of the kept arcs
    pub are_classes :
        AreKinds (kept (network_for at rows) keeps_least) (network_by at (least_of at plan) (class_table at plan rows))
        class_of
    are_classes =
        subst (λ n. AreKinds n (network_by at (least_of at plan) (class_table at plan rows)) class_of)
        (sym kept_network)
        (are_kinds at (by_class at plan) (classes_are_kinds at plan) (λ a b. refl) rows (least_of at plan)
        (same_least at plan is))

    -- each row pays what its class pays
    pub class_pays :
        ArePricesOfKinds (network_for at rows) class_of (map (least_pay at plan) rows)
        (map (least_pay at plan) (class_table at plan rows))
    class_pays i l =
        let inside = in_rows at (arcs_of at) rows i l in
        let there = place_there (by_class at plan) (classes_are_kinds at plan) (λ a b. refl) rows i inside in
        let same = place_same (by_class at plan) (classes_are_kinds at plan) (λ a b. refl) rows i inside in
        get_or-map (least_pay at plan) rows i no_row 0 inside
        ∙ ap (first_pay (pay_over at plan))
        (sym (same_least at plan is (row_at (class_table at plan rows) (class_of i)) (row_at rows i) same))
        ∙ sym (get_or-map (least_pay at plan) (class_table at plan rows) (class_of i) no_row 0 there)

    -- no row pays more than over any of its arcs
    pub pays_low :
        HasNoNegativeReducedCost (network_for at rows) 1 (map (least_pay at plan) rows) plan.server_prices
        plan.host_prices
    pays_low =
        of_all site_of (transport (network_for at rows)) Low (length (network_for at rows).demands)
        (network_for at rows).arcs (network_there at is (arcs_of at) (own_arcs at is) rows).sources (λ i l.
        let inside = in_rows at (arcs_of at) rows i l in
        subst (All (Low i)) (sym (links_are at (arcs_of at) rows i inside))
        (All-map (Low i) link (arcs_of at (row_at rows i))
        (All-weaker (λ (a : Arc). least_pay at plan (row_at rows i) ≤ pay_over at plan a) (λ (a : Arc). Low i (link a))
        (λ a low. omega (arith, low, get_or-map (least_pay at plan) rows i no_row 0 inside, one-mul a.cost))
        (arcs_of at (row_at rows i))
        (no_less (pay_over at plan) (arcs_of at (row_at rows i))))))
      where
        Low : ℕ → Link → Type 0
        Low i a = slice_index (map (least_pay at plan) rows) i ≤ 1 * a.cost + price_at at plan a.server
