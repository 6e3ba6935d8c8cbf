-- What flows in all is what the groups ask for together.
use Rattle.std.proofs.Common.{◌≡◌, ℕ, ◌*◌, ◌<◌, ◌∙◌, ◌==◌, List, length, sum, sum_by, slice_index, ap, sym, arith}
use Rattle.std.proofs.Common.{All, zero-add}
use Rattle.std.specs.Prelude.{if◌then◌else◌}
use Rattle.std.specs.List.{AllByRecursion, range_with_len}
use Rattle.std.proofs.lemmas.List.FromFn.{get_or-range_with_len, length-range_with_len}
use Rattle.std.proofs.lemmas.List.Sums.{sum-map}
use Rattle.hsp_transport.specs.Sums.{sum_below}
use Rattle.hsp_transport.proofs.Places.{sum_numbers}
use Rattle.hsp_transport.proofs.Summing.{by_key, by_place, sum_below_same}
use Rattle.hsp_network.specs.Answer.{IsMet}
use Rattle.hsp_network.specs.declared.network.PricedFlow.{PricedFlow}
use Rattle.hsp_prices.specs.Groups.{Group}
use Rattle.hsp_price_check.specs.declared.numbers.ServiceNumbers.{ServiceNumbers}
use Rattle.hsp_price_plan.specs.Solving.{HasArcsWithin, demand_in, group_network}
use Rattle.hsp_price_plan.proofs.GroupNetwork.{is_network}

-- the sum of a list goes place by place
sum_by_place : (xs : List ℕ) → sum xs ≡ sum_below (length xs) (λ k. slice_index xs k)
sum_by_place xs = by_place (λ x. x) 0 xs

module _ (numbers : ServiceNumbers) (groups : List Group) (flow : PricedFlow)
    (within : AllByRecursion (HasArcsWithin (length numbers.server_hosts.items)) groups)
    (met : IsMet (group_network numbers groups) flow) where
  abbrev demands : List ℕ
  demands = (group_network numbers groups).demands

  abbrev sources : List ℕ
  sources = (group_network numbers groups).sources

  -- what flows on the arc of a number
  abbrev on : ℕ → ℕ
  on k = slice_index flow.flows.items k

  -- each arc leaves a group that is there
  there : All (λ k. slice_index sources k < length demands) (range_with_len 0 (length sources))
  there k d l =
      let inside : k < length sources = omega (arith, l, length-range_with_len 0 (length sources)) in
      let place = get_or-range_with_len 0 (length sources) k d inside in
      let own = (is_network numbers groups within).sources_in k inside in
      omega (arith, own, ap (λ n. slice_index sources n) place, ap (λ n. slice_index sources n) (zero-add k))

  -- what all groups send is what they ask for
  pub flows_together : sum flow.flows.items ≡ demand_in groups
  flows_together =
      let all : sum flow.flows.items ≡ sum_below (length sources) on =
      sum_by_place flow.flows.items ∙ ap (λ n. sum_below n on) met.many.flows in
      let once : sum_below (length sources) on ≡ sum_by (λ k. 1 * on k) (range_with_len 0 (length sources)) =
      sum_below_same (length sources) on (λ k. 1 * on k) (λ k l. omega arith)
      ∙ sym (sum_numbers (λ k. 1 * on k) (length sources)) in
      let keyed =
      by_key (λ k. slice_index sources k) on (λ i. 1) (length demands) (range_with_len 0 (length sources)) there in
      let own : sum_below (length demands)
      (λ i. 1 * sum_by (λ k. if slice_index sources k == i then on k else 0) (range_with_len 0 (length sources)))
      ≡ sum_below (length demands) (λ i. slice_index demands i) =
      sum_below_same (length demands) _ _ (λ i l. omega (arith, met.balanced.feasible.met i l)) in
      all ∙ once ∙ keyed ∙ own ∙ sym (sum_by_place demands) ∙ sum-map (λ (group : Group). group.demand) groups
