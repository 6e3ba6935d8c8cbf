-- What the certificate of a plan of groups brings to servers and costs, and what its classes send.
use Rattle.std.proofs.Common.{◌≡◌, ℕ, ◌+◌, ◌*◌, ◌==◌, ◌∙◌, List, All, Option, Some, None, map, sum}
use Rattle.std.proofs.Common.{sum_by, zip, refl, ap, ap₂, sym, mul-add, mul-zero}
use Rattle.std.specs.List.{AllByRecursion, AllZip}
use Rattle.std.proofs.lemmas.List.Elements.{All-from_recursion, recursion_from_All}
use Rattle.hsp_transport.proofs.Rowwise.{same_by, sum_by_when, when, when_zero, when_add, when_turned}
use Rattle.hsp_network.specs.Network.{numbered}
use Rattle.hsp_network.specs.declared.network.PricedFlow.{PricedFlow}
use Rattle.hsp_transport.specs.Flow.{load}
use Rattle.hsp_transport.proofs.Summing.{sum_by_map}
use Rattle.hsp_instance.specs.Instance.{Row}
use Rattle.hsp_instance.specs.declared.arc.Arc.{Arc}
use Rattle.hsp_instance.proofs.Lists.{all_so}
use Rattle.hsp_prices.specs.Rows.{Service}
use Rattle.hsp_price_text.specs.Claim.{Best, Class}
use Rattle.hsp_prices.specs.Least.{is_of, least_of, only_arc}
use Rattle.hsp_prices.specs.Shown.{IsService}
use Rattle.hsp_prices.specs.Sums.{asked_of, brings, class_cost, class_load, cost_at, cost_in_all, costs, load_at}
use Rattle.hsp_prices.specs.Sums.{row_cost, row_load, sends}
use Rattle.hsp_prices.proofs.Lists.{same_sum}
use Rattle.hsp_prices.specs.Groups.{Group, asked_by, is_in}
use Rattle.hsp_prices.specs.KeptRows.{KeptRow}
use Rattle.hsp_prices.specs.Solved.{AreRows, IsPlanOfGroups, cost_of, is_part, sent_by}
use Rattle.hsp_prices.proofs.Beside.{zip_made}
use Rattle.hsp_prices.proofs.GroupRows.{AreLeast, IsKeptAs, all_kept_as, by_group, class_of_group, group_least}
use Rattle.hsp_prices.proofs.GroupRows.{is_of_kept, least_by, same_class}
use Rattle.hsp_prices.proofs.GroupSums.{HasLeast, IsWeight, all_count, at_only, class_counts, counts_of, row_counts}
use Rattle.hsp_prices.proofs.MetFlows.{load_is, net, on_arc, sent_is}
use Rattle.hsp_prices.proofs.RowPairs.{sum_alike}
use Rattle.hsp_prices.proofs.SentFlows.{IsSent, firsts, of_sent, sent_of, sum_sent}

-- an amount over an arc counts at the arc's server
abbrev over_server : ℕ → Arc → ℕ → ℕ
over_server j a v = when (a.server == j) v

-- and so does one to a server
abbrev to_server : ℕ → List ℕ → ℕ → ℕ → ℕ
to_server j r i v = when (i == j) v

-- an amount costs what the arc costs
abbrev over_cost : Arc → ℕ → ℕ
over_cost a v = a.cost * v

-- one to a server costs what the region's arc to it costs
abbrev to_cost : Service → List ℕ → ℕ → ℕ → ℕ
to_cost at r j v = cost_at at r j * v

-- what counts at a server
server_weighs : (at : Service) (j : ℕ) → IsWeight at (over_server j) (to_server j)
server_weighs at j = record {
  none = λ a. when_zero (a.server == j);
  adds = λ a m n. when_add (a.server == j) m n;
  none_to = λ r i. when_zero (i == j);
  adds_to = λ r i m n. when_add (i == j) m n;
  same = λ r a n e. refl;
}

-- what is paid
cost_weighs : (at : Service) → IsWeight at over_cost (to_cost at)
cost_weighs at = record {
  none = λ a. mul-zero a.cost;
  adds = λ a m n. mul-add a.cost m n;
  none_to = λ r j. mul-zero (cost_at at r j);
  adds_to = λ r j m n. mul-add (cost_at at r j) m n;
  same = λ r a n e. ap (λ c. c * n) (sym e);
}

-- each amount counts
amount_weighs : (at : Service) → IsWeight at (λ a v. v) (λ r j v. v)
amount_weighs at = record {
  none = λ a. refl;
  adds = λ a m n. refl;
  none_to = λ r j. refl;
  adds_to = λ r j m n. refl;
  same = λ r a n e. refl;
}

-- what an only arc brings to a server
brings_only : (j n : ℕ) (o : Option Arc) → brings n j o ≡ at_only (over_server j) n o
brings_only j n None = refl
brings_only j n (Some a) = refl

-- and what it costs
costs_only : (n : ℕ) (o : Option Arc) → costs n o ≡ at_only over_cost n o
costs_only n None = refl
costs_only n (Some a) = refl

module _ (at : Service) (rows : List Row) (kept : List KeptRow) (groups : List Group) (flow : PricedFlow) (plan : Best)
    (is : IsService at) (are : AreRows at rows kept) (shown : IsPlanOfGroups at kept groups flow plan) where
  -- each group, with its own flows
  abbrev pub sent : List (Group × List ℕ)
  sent = sent_of groups flow.flows.items

  -- the rows in memory keep their least arcs
  pub kept_as : AllZip (IsKeptAs at plan) rows kept
  kept_as = all_kept_as at plan rows kept are shown.least

  -- each group has least arcs of its own
  pub groups_least : AllByRecursion (λ (group : Group). AreLeast at plan group.region (least_by at plan group)) groups
  groups_least = group_least at plan is rows kept groups kept_as shown.of_rows

  -- and so it has with its flows
  pub sent_least : AllByRecursion (HasLeast at plan) sent
  sent_least =
      of_sent (λ (group : Group). AreLeast at plan group.region (least_by at plan group)) groups flow.flows.items
      groups_least

  -- each sends what it asks for
  pub sent_all : AllByRecursion (IsSent at plan) sent
  sent_all = sent_is at groups flow shown.met plan shown.server_prices shown.host_prices

  -- rows and classes count as the flow does
  counted : (over : Arc → ℕ → ℕ) (to : List ℕ → ℕ → ℕ → ℕ) (weighs : IsWeight at over to) →
      sum_by (row_counts at plan over to weighs) rows
      + sum_by (λ class. sum_by (λ (s : ℕ × ℕ). to class.region s.0 s.1) (sends class)) plan.classes
      ≡ sum_by (counts_of at plan over to weighs) sent
  counted over to weighs =
      all_count at plan over to weighs groups flow.flows.items shown.classes rows kept kept_as shown.of_rows sent_all
      sent_least

  -- a server takes what the flow brings to it
  pub loads_are : (j : ℕ)
      → load_at at plan rows j ≡ load (numbered (net at groups flow shown.met)) (on_arc at groups flow shown.met) j
  loads_are j =
      ap (λ v. v + sum_by (class_load j) plan.classes)
      (same_by (row_load at plan j) _ rows (λ row. brings_only j row.count (only_arc (least_of at plan row))))
      ∙ counted (over_server j) (to_server j) (server_weighs at j)
      ∙ sym (load_is at groups flow shown.met j)

  -- all of it costs what the flow costs
  pub cost_is : cost_in_all at plan rows ≡ cost_of groups flow.flows.items
  cost_is =
      ap (λ v. v + sum_by (class_cost at) plan.classes)
      (same_by (row_cost at plan) _ rows (λ row. costs_only row.count (only_arc (least_of at plan row))))
      ∙ counted over_cost (to_cost at) (cost_weighs at)
      ∙ sym (sum_sent (λ (x : Arc × ℕ). x.0.cost * x.1) groups flow.flows.items)

  -- ---- what a class sends

  -- the amounts of a class are what flows from its groups
  amounts_sent : (class : Class) → class.amounts ≡ map (sent_by at plan sent class) class.servers →
      sum class.amounts ≡ sum_by (λ own. when (is_part at plan class own.0) own.0.demand) sent
  amounts_sent class amounts =
      ap sum amounts
      ∙ sum_by_map (λ v. v) (sent_by at plan sent class) class.servers
      ∙ sym
      (ap (sum_by (λ (s : ℕ × ℕ). s.1))
      (ap (zip class.servers) amounts ∙ zip_made (sent_by at plan sent class) class.servers)
      ∙ sum_by_map (λ (s : ℕ × ℕ). s.1) (λ j. (j, sent_by at plan sent class j)) class.servers)
      ∙ class_counts at plan (λ a v. v) (λ r j v. v) (amount_weighs at) sent sent_all sent_least class amounts
      ∙ same_sum _ _ sent
      (all_so (IsSent at plan) _ sent (λ own s. ap (λ v. when (is_part at plan class own.0) v) s.met) sent_all)

  -- what the groups of a class ask for is what its rows ask for
  asked_is : (class : Class) →
      sum_by (λ group. when (is_part at plan class group) group.demand) groups ≡ asked_of at plan rows class
  asked_is class =
      same_sum _ _ groups
      (all_so (λ (group : Group). group.demand ≡ asked_by kept group) _ groups
      (λ group asked.
      ap (λ n. when (is_part at plan class group) n) asked
      ∙ sym (sum_by_when (is_part at plan class group) (λ row. when (is_in group row) row.count) kept)
      ∙ same_by _ _ kept (λ row. when_turned (is_part at plan class group) (is_in group row) row.count))
      (recursion_from_All (λ (group : Group). group.demand ≡ asked_by kept group) groups shown.of_rows.asked))
      ∙ sym
      (by_group at plan groups kept shown.of_rows (λ row. when (is_of_kept at plan class row) row.count)
      (λ group row. when (is_part at plan class group) row.count)
      (λ group row own same. ap (λ t. when t row.count) (class_of_group at plan class group row own same)))
      ∙ sym
      (sum_alike (IsKeptAs at plan) (λ row. when (is_of at plan class row) row.count)
      (λ row. when (is_of_kept at plan class row) row.count)
      (λ row k own. ap₂ when (same_class at plan class row k own) (sym own.count)) rows kept kept_as)

  -- so each class sends what its rows ask for
  pub class_sums : All (λ (class : Class). sum class.amounts ≡ asked_of at plan rows class) plan.classes
  class_sums =
      All-from_recursion (λ (class : Class). sum class.amounts ≡ asked_of at plan rows class) plan.classes
      (all_so (λ (class : Class). class.amounts ≡ map (sent_by at plan sent class) class.servers) _ plan.classes
      (λ class amounts.
      amounts_sent class amounts
      ∙ sym (sum_by_map (λ (group : Group). when (is_part at plan class group) group.demand) (λ own. own.0) sent)
      ∙ ap (sum_by (λ (group : Group). when (is_part at plan class group) group.demand))
      (firsts groups flow.flows.items)
      ∙ asked_is class)
      (recursion_from_All (λ (class : Class). class.amounts ≡ map (sent_by at plan sent class) class.servers)
      plan.classes shown.classes.amounts))
