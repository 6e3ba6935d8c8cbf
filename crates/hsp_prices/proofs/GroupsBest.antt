-- A flow that meets the network of groups, with prices, shows a valid certificate of the rows.
use Rattle.std.proofs.Common.{◌≡◌, ℕ, ◌<◌, ◌∙◌, true, List, All, length, map, slice_index, slice_index_or}
use Rattle.std.proofs.Common.{ap, sym, subst, arith}
use Rattle.std.specs.List.{list_any}
use Rattle.std.proofs.lemmas.List.{length-map}
use Rattle.std.proofs.lemmas.List.Elements.{All-from_recursion}
use Rattle.std.proofs.lemmas.List.Folds.{Any-from_list_any, list_any_at}
use Rattle.hsp_transport.specs.Flow.{host_load, is_on, load}
use Rattle.hsp_transport.proofs.Rowwise.{when}
use Rattle.hsp_transport.proofs.Summing.{sum_below_same}
use Rattle.hsp_transport.specs.Sums.{sum_below}
use Rattle.hsp_network.specs.Network.{numbered}
use Rattle.hsp_network.specs.declared.network.PricedFlow.{PricedFlow}
use Rattle.hsp_instance.specs.Instance.{Host, Row, Server}
use Rattle.hsp_instance.specs.declared.arc.Arc.{Arc}
use Rattle.hsp_instance.proofs.Lists.{all_map}
use Rattle.hsp_prices.specs.Rows.{Service}
use Rattle.hsp_prices.proofs.Tabling.{both_equal}
use Rattle.hsp_price_text.specs.Claim.{Best, Class}
use Rattle.hsp_prices.specs.Least.{host_at, is_of}
use Rattle.hsp_prices.specs.Shown.{IsService}
use Rattle.hsp_prices.specs.Sums.{host_load_at, load_at}
use Rattle.hsp_prices.specs.Verdict.{AreThere, PlanMeets}
use Rattle.hsp_prices.specs.declared.verdict.PriceReason.{PriceReason}
use Rattle.hsp_prices.specs.declared.verdict.PriceReason.TheVariants.{Shape, NoSuchServer, NotLeast, NoClass, ClassSum}
use Rattle.hsp_prices.specs.declared.verdict.PriceReason.TheVariants.{Load, Cost, IdlePrice, DemandSum, CapacitySum}
use Rattle.hsp_prices.specs.declared.verdict.PriceReason.TheVariants.{NotShort}
use Rattle.hsp_prices.specs.Groups.{Group, network_of_groups}
use Rattle.hsp_prices.specs.KeptRows.{KeptRow}
use Rattle.hsp_prices.specs.Solved.{AreRows, GroupsShowBest, IsPlanOfGroups, is_part, least_servers}
use Rattle.hsp_prices.proofs.GroupRows.{AreLeast, IsKeptAs, Stands, class_of_group, has_row, is_of_kept, least_by}
use Rattle.hsp_prices.proofs.GroupRows.{same_class}
use Rattle.hsp_prices.proofs.MetFlows.{on_arc}
use Rattle.hsp_prices.proofs.PlacedRows.{rows_placed}
use Rattle.hsp_prices.proofs.PlanSums.{class_sums, cost_is, groups_least, kept_as, loads_are}
use Rattle.hsp_prices.proofs.RowPairs.{any_alike}

module _ (at : Service) (rows : List Row) (kept : List KeptRow) (groups : List Group) (flow : PricedFlow) (plan : Best)
    (is : IsService at) (are : AreRows at rows kept) (shown : IsPlanOfGroups at kept groups flow plan) where
  -- what the flow brings to a server
  abbrev flow_load : ℕ → ℕ
  flow_load j = load (numbered (network_of_groups at groups)) (on_arc at groups flow shown.met) j

  -- and to a host
  abbrev flow_host_load : ℕ → ℕ
  flow_host_load h = host_load (numbered (network_of_groups at groups)) (on_arc at groups flow shown.met) h

  -- a server takes what the flow brings to it
  same_load : (j : ℕ) → load_at at plan rows j ≡ flow_load j
  same_load j = loads_are at rows kept groups flow plan is are shown j

  -- and so does a host
  same_host_load : (h : ℕ) → host_load_at at plan rows h ≡ flow_host_load h
  same_host_load h =
      sum_below_same (length at.servers) _ _ (λ j l. ap (λ v. when (is_on (host_at at j) h) v) (same_load j))
      ∙ ap (λ n. sum_below n (λ j. when (is_on (host_at at j) h) (flow_load j)))
      (sym (length-map at.servers (λ (s : Server). s.capacity)))

  -- a server that is there has a capacity
  has_capacity : (j : ℕ) → j < length at.servers → j < length (map (λ (s : Server). s.capacity) at.servers)
  has_capacity j l = omega (arith, l, length-map at.servers (λ (s : Server). s.capacity))

  -- and a host a limit
  has_limit : (h : ℕ) → h < length at.hosts → h < length (map (λ (h : Host). h.limit) at.hosts)
  has_limit h l = omega (arith, l, length-map at.hosts (λ (h : Host). h.limit))

  -- the servers of a class are there
  class_there : All (λ (class : Class). AreThere at class.servers) plan.classes
  class_there k d l =
      let class = slice_index_or plan.classes k d in
      let found = Any-from_list_any (λ group. is_part at plan class group) groups (shown.classes.used k d l) in
      let group = slice_index_or groups found.0 found.1 in
      let part : is_part at plan class group ≡ true = ap (λ g. is_part at plan class g) found.3 ∙ found.4 in
      let least =
      All-from_recursion (λ (group : Group). AreLeast at plan group.region (least_by at plan group)) groups
      (groups_least at rows kept groups flow plan is are shown) found.0 found.1 found.2 in
      subst (AreThere at)
      (sym ((both_equal class.region group.region class.servers (least_servers at plan group)).0 part).1)
      (All-from_recursion (λ j. j < length at.servers) (least_servers at plan group)
      (all_map (Stands at plan group.region) (λ j. j < length at.servers) (λ (a : Arc). a.server)
      (least_by at plan group) (λ a stands. stands.0) least.stand))

  -- each class has a row
  class_used : All (λ (class : Class). list_any (λ row. is_of at plan class row) rows ≡ true) plan.classes
  class_used k d l =
      let class = slice_index_or plan.classes k d in
      let found = Any-from_list_any (λ group. is_part at plan class group) groups (shown.classes.used k d l) in
      let group = slice_index_or groups found.0 found.1 in
      let part : is_part at plan class group ≡ true = ap (λ g. is_part at plan class g) found.3 ∙ found.4 in
      let has = has_row at plan groups kept shown.of_rows found.0 found.1 found.2 in
      any_alike (IsKeptAs at plan) (λ row. is_of at plan class row) (λ row. is_of_kept at plan class row)
      (same_class at plan class) rows kept (kept_as at rows kept groups flow plan is are shown)
      ∙ list_any_at (λ row. is_of_kept at plan class row) kept has.place has.other has.there
      (class_of_group at plan class group (slice_index_or kept has.place has.other) has.own has.arcs ∙ part)

  -- each condition is met
  all_met : (reason : PriceReason) → PlanMeets at rows plan reason
  all_met Shape = (
    ap length shown.server_prices ∙ shown.met.many.servers ∙ length-map at.servers (λ (s : Server). s.capacity),
    ap length shown.host_prices ∙ shown.met.many.hosts ∙ length-map at.hosts (λ (h : Host). h.limit),
  )
  all_met NoSuchServer = class_there
  all_met NotLeast = class_used
  all_met NoClass = rows_placed at rows kept groups flow plan is are shown
  all_met ClassSum = class_sums at rows kept groups flow plan is are shown
  all_met Load = (
    (λ j l.
        let within = shown.met.balanced.feasible.within j (has_capacity j l) in omega (arith, within, same_load j)),
    (λ h l.
        let hosted = shown.met.balanced.feasible.hosted h (has_limit h l) in omega (arith, hosted, same_host_load h)),
  )
  all_met Cost = shown.cost ∙ sym (cost_is at rows kept groups flow plan is are shown)
  all_met IdlePrice = (
    (λ j l less.
        ap (λ prices. slice_index prices j) shown.server_prices
        ∙ shown.met.balanced.prices.idle j (has_capacity j l) (rw (same_load j) at less)),
    (λ h l less.
        ap (λ prices. slice_index prices h) shown.host_prices
        ∙ shown.met.balanced.prices.idle_host h (has_limit h l) (rw (same_host_load h) at less)),
  )
  all_met DemandSum = tt
  all_met CapacitySum = tt
  all_met NotShort = tt

-- a solved network of groups shows a valid certificate of a plan
pub groups_show_best : GroupsShowBest
groups_show_best at rows kept groups flow plan is are shown = all_met at rows kept groups flow plan is are shown
