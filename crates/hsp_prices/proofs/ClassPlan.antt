-- The plan of the classes that a certificate by prices states: it is feasible, and has the certificate's prices.
use Rattle.std.proofs.Common.{◌≡◌, ℕ, ◌+◌, ◌*◌, ◌<◌, ◌≤◌, ◌==◌, ◌∙◌, inl, inr, ◌||◌, true, false, List, [], ◌∷◌, length}
use Rattle.std.proofs.Common.{All, Option, Some, None, map, sum_by, slice_index, refl, ap, sym, subst, arith}
use Rattle.std.specs.List.{AllByRecursion, list_any, slice_get}
use Rattle.std.proofs.lemmas.Bool.{cases_lt}
use Rattle.std.proofs.lemmas.List.{length-map, get_or-map}
use Rattle.std.proofs.lemmas.List.Elements.{All-map, All-weaker}
use Rattle.std.proofs.lemmas.Option.{slice_get-get_or, slice_get_past}
use Rattle.hsp_transport.specs.Kinds.{Link, link_of}
use Rattle.hsp_transport.specs.Sums.{sum_below}
use Rattle.hsp_transport.proofs.ArcsBySource.{of_all}
use Rattle.hsp_transport.proofs.Rowwise.{allowed_by, by_row, by_rows, when}
use Rattle.hsp_transport.proofs.Summing.{by_place, sum_below_same, sum_by_map}
use Rattle.hsp_instance.specs.Instance.{Row, Server}
use Rattle.hsp_instance.specs.declared.arc.Arc.{Arc}
use Rattle.hsp_instance.proofs.Lists.{all_so}
use Rattle.hsp_check.specs.Network.{IsNetwork, Network, site_of, transport}
use Rattle.hsp_check.specs.Plan.{Feasible, Plan, host_load, is_on, load, served, total}
use Rattle.hsp_check.specs.Prices.{Prices}
use Rattle.hsp_check.proofs.RowLinks.{link}
use Rattle.hsp_prices.specs.Kinds.{links_of}
use Rattle.hsp_prices.specs.Rows.{Service, network_by}
use Rattle.hsp_prices.proofs.ByTables.{in_rows, links_are, no_row, row_at}
use Rattle.hsp_price_text.specs.Claim.{Best, is_best}
use Rattle.hsp_prices.specs.Least.{arcs_of, host_at, least_of, pay_over, price_at}
use Rattle.hsp_prices.specs.Shown.{IsService}
use Rattle.hsp_prices.specs.Sums.{cost_in_all, host_load_at, least_pay, load_at}
use Rattle.hsp_prices.specs.Verdict.{PlanMeets}
use Rattle.hsp_prices.specs.declared.verdict.PriceReason.{PriceReason}
use Rattle.hsp_prices.specs.declared.verdict.PriceReason.TheVariants as reason
use Rattle.hsp_prices.proofs.ClassKinds.{least_ascend, own_least}
use Rattle.hsp_prices.proofs.Flows.{class_table, flow, loads, total_cost}
use Rattle.hsp_prices.proofs.GivenClasses.{given_classes}
use Rattle.hsp_prices.proofs.LeastPay.{all_pay}
use Rattle.hsp_prices.proofs.Lists.{same_sum}
use Rattle.hsp_prices.proofs.Networks.{network_there}
use Rattle.hsp_prices.proofs.Once.{sum_none}
use Rattle.hsp_prices.proofs.Served.{sends_all}
use Rattle.hsp_prices.proofs.Sites.{at_own_site}

module _ (at : Service) (plan : Best) (rows : List Row) where
  abbrev table : List Row
  table = class_table at plan rows

  -- the network of the classes
  abbrev pub of_classes : Network
  of_classes = network_by at (least_of at plan) table

  -- what a row of the table sends to a site
  abbrev to_site : Option Row → ℕ → ℕ
  to_site None s = 0
  to_site (Some t) s = sum_by (λ (a : Arc). when (a.site == s) (flow at plan t a.server)) (least_of at plan t)

  -- the plan of the classes
  abbrev pub class_plan : Plan
  class_plan k s = to_site (slice_get table k) s

  -- over each least arc of a row flows what the row sends to its server
  planned_is : (k : ℕ) → k < length table
      → AllByRecursion (λ (a : Arc). class_plan k a.site ≡ flow at plan (row_at table k) a.server)
      (least_of at plan (row_at table k))
  planned_is k l =
      subst
      (λ o. AllByRecursion (λ (a : Arc). to_site o a.site ≡ flow at plan (row_at table k) a.server)
      (least_of at plan (row_at table k)))
      (sym (slice_get-get_or table k no_row l))
      (at_own_site (λ (a : Arc). flow at plan (row_at table k) a.server) (least_of at plan (row_at table k))
      (least_ascend at plan (row_at table k)))

  -- a sum over the links of a row is one over its least arcs
  over_links : (g : Link → ℕ → ℕ) (k : ℕ) → k < length table →
      sum_by (λ (b : Link). g b (class_plan k b.site)) (links_of of_classes k)
      ≡ sum_by (λ (a : Arc). g (link a) (flow at plan (row_at table k) a.server)) (least_of at plan (row_at table k))
  over_links g k l =
      ap (sum_by (λ (b : Link). g b (class_plan k b.site))) (links_are at (least_of at plan) table k l)
      ∙ sum_by_map (λ (b : Link). g b (class_plan k b.site)) link (least_of at plan (row_at table k))
      ∙ same_sum _ _ (least_of at plan (row_at table k))
      (all_so (λ (a : Arc). class_plan k a.site ≡ flow at plan (row_at table k) a.server) _
      (least_of at plan (row_at table k)) (λ a e. ap (g (link a)) e) (planned_is k l))

  -- nothing goes where no least arc leads
  nowhere : (k s : ℕ) → list_any (λ (b : Link). b.site == s) (links_of of_classes k) ≡ false → class_plan k s ≡ 0
  nowhere k s none = elim (cases_lt k (length table)) [
    | inl inside ↦
        ap (λ o. to_site o s) (slice_get-get_or table k no_row inside)
        ∙ sum_none (λ (a : Arc). a.site == s) (λ (a : Arc). flow at plan (row_at table k) a.server)
        (least_of at plan (row_at table k))
        (sym (over (least_of at plan (row_at table k)))
        ∙ sym (ap (list_any (λ (b : Link). b.site == s)) (links_are at (least_of at plan) table k inside)) ∙ none)
    | inr past ↦ ap (λ o. to_site o s) (slice_get_past table k past)
  ]
    where
      over : (arcs : List Arc)
          → list_any (λ (b : Link). b.site == s) (map link arcs) ≡ list_any (λ (a : Arc). a.site == s) arcs
      over [] = refl
      over (a ∷ arcs) = ap (λ t. (a.site == s) || t) (over arcs)

  module _ (is : IsService at) where
    -- the rows of the table have a network
    pub classes_network : IsNetwork of_classes
    classes_network = network_there at is (least_of at plan) (own_least at plan is) table

    -- a sum over the arcs of the classes is one over the rows of the table
    over_arcs : (g : Link → ℕ → ℕ) →
        sum_by (λ a. g (link_of site_of (transport of_classes) a) (class_plan a.row a.site)) of_classes.arcs
        ≡ sum_by (λ t. sum_by (λ (a : Arc). g (link a) (flow at plan t a.server)) (least_of at plan t)) table
    over_arcs g =
        by_rows site_of (transport of_classes) (length of_classes.demands) of_classes.arcs classes_network.sources
        (λ i b. g b (class_plan i b.site))
        ∙ ap (λ n. sum_below n (λ i. sum_by (λ (b : Link). g b (class_plan i b.site)) (links_of of_classes i)))
        (length-map table (λ (r : Row). r.count))
        ∙ sum_below_same (length table) _ _ (λ k l. over_links g k l)
        ∙ sym
        (by_place (λ t. sum_by (λ (a : Arc). g (link a) (flow at plan t a.server)) (least_of at plan t)) no_row table)

    module _ (fits : is_best plan ≡ true) (meets : (r : PriceReason) → PlanMeets at rows plan r) where
      -- each server takes what rows and classes bring
      pub load_is : (j : ℕ) → load of_classes class_plan j ≡ load_at at plan rows j
      load_is j =
          over_arcs (λ b v. when (b.server == j) v)
          ∙ loads at plan is rows j (given_classes plan fits) (meets reason.NotLeast)

      -- and so does each host
      pub host_load_is : (h : ℕ) → host_load of_classes class_plan h ≡ host_load_at at plan rows h
      host_load_is h =
          ap (λ n. sum_below n (λ j. when (is_on (host_at at j) h) (load of_classes class_plan j)))
          (length-map at.servers (λ (s : Server). s.capacity))
          ∙ sum_below_same (length at.servers) _ _ (λ j l. ap (λ v. when (is_on (host_at at j) h) v) (load_is j))

      -- the plan costs what rows and classes cost
      pub total_is : total of_classes class_plan ≡ cost_in_all at plan rows
      total_is =
          over_arcs (λ b v. b.cost * v)
          ∙ total_cost at plan is rows (given_classes plan fits) (meets reason.NotLeast)

      -- each row of the table gets what it asks for
      served_is : (k : ℕ) → k < length of_classes.demands
          → served of_classes class_plan k ≡ slice_index of_classes.demands k
      served_is k l =
          let inside = in_rows at (least_of at plan) table k l in
          by_row site_of (transport of_classes) of_classes.arcs k (λ i b. class_plan i b.site)
          ∙ over_links (λ b v. v) k inside
          ∙ sends_all at plan is fits rows (meets reason.ClassSum) (meets reason.NoClass) k inside
          ∙ sym (get_or-map (λ (r : Row). r.count) table k no_row 0 inside)

      -- the plan of the classes is feasible
      pub class_plan_feasible : Feasible of_classes class_plan
      class_plan_feasible = record {
        allowed = λ i s none.
            nowhere i s (sym (allowed_by site_of (transport of_classes) of_classes.arcs i s) ∙ none);
        flow = record {
          met = served_is;
          within = λ j l. rw (load_is j)
              ((meets reason.Load).0 j (omega (arith, l, length-map at.servers (λ (s : Server). s.capacity))));
          hosted = λ h l. rw (host_load_is h)
              ((meets reason.Load).1 h (omega (arith, l, length-map at.hosts (λ h. h.limit))));
        };
      }

      -- each row of the table pays the same over all its arcs
      paid : (P : ℕ → Link → Type 0)
          → ((k : ℕ) (a : Arc) → slice_index (map (least_pay at plan) table) k ≡ pay_over at plan a → P k (link a))
          → All (λ a. P a.row (link_of site_of (transport of_classes) a)) of_classes.arcs
      paid P so =
          of_all site_of (transport of_classes) P (length of_classes.demands) of_classes.arcs classes_network.sources
          (λ k l.
          let inside = in_rows at (least_of at plan) table k l in
          subst (All (P k)) (sym (links_are at (least_of at plan) table k inside))
          (All-map (P k) link (least_of at plan (row_at table k))
          (All-weaker (λ (a : Arc). least_pay at plan (row_at table k) ≡ pay_over at plan a) (λ (a : Arc). P k (link a))
          (λ a e. so k a (get_or-map (least_pay at plan) table k no_row 0 inside ∙ e))
          (least_of at plan (row_at table k))
          (all_pay (pay_over at plan) (arcs_of at (row_at table k))))))

      -- the plan has the certificate's prices
      pub class_prices :
          Prices of_classes class_plan (map (least_pay at plan) table) plan.server_prices plan.host_prices
      class_prices = record {
        below =
            paid (λ i b. slice_index (map (least_pay at plan) table) i ≤ b.cost + price_at at plan b.server)
            (λ k a e. omega (arith, e));
        used =
            paid
            (λ i b. 0 < class_plan i b.site
            → slice_index (map (least_pay at plan) table) i ≡ b.cost + price_at at plan b.server)
            (λ k a e some. e);
        idle = λ j l less.
            (meets reason.IdlePrice).0 j (omega (arith, l, length-map at.servers (λ (s : Server). s.capacity)))
            (rw (load_is j) at less);
        idle_host = λ h l less.
            (meets reason.IdlePrice).1 h (omega (arith, l, length-map at.hosts (λ h. h.limit)))
            (rw (host_load_is h) at less);
      }
