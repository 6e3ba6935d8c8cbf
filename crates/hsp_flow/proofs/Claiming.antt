-- A flow that meets every row, or a short set, makes a certificate.
use Rattle.std.proofs.Common.{◌≡◌, ℕ, ◌+◌, ◌*◌, ◌<◌, ◌≤◌, ◌∙◌, Bool, List, length, map, slice_index, refl, ap, arith}
use Rattle.std.specs.Prelude.{None}
use Rattle.std.proofs.lemmas.List.{length-map, get_or-map}
use Rattle.std.proofs.lemmas.List.Elements.{All-from_get_or, All-get_or}
use Rattle.hsp_cert.specs.declared.use_line.UseLine.{UseLine}
use Rattle.hsp_cert.specs.Certificate.{Best, IsBest, IsShort}
use Rattle.hsp_cert.specs.Certificate.Claim.{best}
use Rattle.hsp_instance.specs.Instance.{Instance, Row, Server, Host, IsInstance}
use Rattle.hsp_check.specs.Instance.{arcs_from, network_of}
use Rattle.hsp_check.specs.Valid.{IsValidPlan, IsValidSet}
use Rattle.hsp_check.specs.declared.arc.NetworkArc.{NetworkArc}
use Rattle.hsp_network.specs.Answer.{IsMet, BoundsCosts, IsShortSet}
use Rattle.hsp_network.specs.Network.{HasLowPrices, numbered}
use Rattle.hsp_transport.specs.Cut.{capacity_of, demand_of}
use Rattle.hsp_transport.specs.Lists.{flag_at}
use Rattle.hsp_network.proofs.Numbered.{sent_numbers}
use Rattle.hsp_flow.specs.Planning.{transport_of, uses_of, flagged_from, HasLimitedPrices, row_of, cost_of}
use Rattle.hsp_network.specs.Sums.{sum_below, only}
use Rattle.hsp_network.specs.declared.network.PricedFlow.{PricedFlow}
use Rattle.hsp_network.proofs.AddingUp.{term_within, only_here}
use Rattle.hsp_flow.proofs.Ordering.{no_arc}
use Rattle.hsp_flow.proofs.Bridging.{arc}
use Rattle.hsp_flow.proofs.Certifying.{cost_is, instance_ordered, plan_feasible, plan_of_flow, plan_valid}
use Rattle.hsp_flow.proofs.Ranges.{uses_ascend, uses_fit, prices_fit, flags_ascend, flags_fit}
use Rattle.hsp_flow.proofs.ShortRows.{set_valid}
use Rattle.hsp_flow.proofs.Limits.{counts_low, small_ends, costs_low, total_low, network_is, few_arcs}

module _ (it : Instance) (is : IsInstance it) (plan : PricedFlow) (met : IsMet (transport_of it) plan) where
  -- the bound of prices by what the costs are
  limit : ℕ
  limit =
      (length (transport_of it).demands + length (transport_of it).capacities + length (transport_of it).limits
      + 1) * 1000000

  -- the prices are within the bound
  bounded : HasLowPrices plan.source_prices.items plan.server_prices.items plan.host_prices.items limit
  unfolding limit
  bounded = met.low 1000000 (costs_low it is)

  -- the bound is within that of a certificate
  limit_low : limit ≤ 1000000000000
  unfolding limit
  limit_low =
      omega (
        arith,
        length-map it.rows (λ (r : Row). r.count),
        length-map it.servers (λ (s : Server). s.capacity),
        length-map it.hosts (λ (h : Host). h.limit),
        is.rows.few,
        is.servers.few,
        is.hosts.few,
      )

  -- no arc has more flow than a row can ask for
  flow_low : (k : ℕ) → k < length (arcs_from 0 it.arcs) → slice_index plan.flows.items k ≤ 1000000
  flow_low k l =
      let inside : k < length (transport_of it).sources = omega (arith, l, length-map (arcs_from 0 it.arcs) row_of) in
      let i = slice_index (transport_of it).sources k in
      let there : i < length (transport_of it).demands = (network_is it is).sources_in k inside in
      let term : only i i (slice_index plan.flows.items k)
      ≤ sum_below (length (transport_of it).sources)
      (λ m. only (slice_index (transport_of it).sources m) i (slice_index plan.flows.items m)) =
      term_within (length (transport_of it).sources)
      (λ m. only (slice_index (transport_of it).sources m) i (slice_index plan.flows.items m)) k inside in
      omega (
        arith,
        term,
        only_here i i (slice_index plan.flows.items k) refl,
        met.balanced.feasible.met i there,
        sent_numbers (transport_of it) (λ m. slice_index plan.flows.items m) i,
        counts_low it is i there,
      )

  -- the cost is within that of a certificate
  pub cost_low : sum_below (length (arcs_from 0 it.arcs))
      (λ k. slice_index (transport_of it).costs k * slice_index plan.flows.items k) ≤ 8192000000000000
  cost_low =
      let low = total_low it is (plan_of_flow it is plan met) (plan_feasible it is plan met) in
      omega (arith, low, cost_is it is plan met)

  module _ (cost : ℕ)
      (sum : cost
      ≡ sum_below (length (arcs_from 0 it.arcs))
      (λ k. slice_index (transport_of it).costs k * slice_index plan.flows.items k))
      (uses : List UseLine) (are : uses ≡ uses_of (arcs_from 0 it.arcs) plan.flows.items) where
    abbrev pub made : Best
    made =
        record {
          cost = cost;
          uses = uses;
          row_prices = plan.source_prices.items;
          server_prices = plan.server_prices.items;
          host_prices = plan.host_prices.items;
        }

    -- the certificate is valid
    pub best_valid : IsValidPlan (network_of it) made
    best_valid = rw are (plan_valid it is plan met limit limit_low bounded cost sum)

    -- its numbers are in their ranges
    pub best_is : IsBest made
    best_is = record {
      cost = omega (arith, sum, cost_low);
      uses = rw are (uses_fit (arcs_from 0 it.arcs) plan.flows.items (small_ends it is) flow_low);
      order = rw are (uses_ascend None (arcs_from 0 it.arcs) plan.flows.items (instance_ordered it is) tt);
      row_count = omega (arith, met.many.sources, length-map it.rows (λ (r : Row). r.count), is.rows.few);
      row_prices = prices_fit plan.source_prices.items (λ i l. omega (arith, bounded.sources i l, limit_low));
      server_count =
          omega (arith, met.many.servers, length-map it.servers (λ (s : Server). s.capacity), is.servers.few);
      server_prices = prices_fit plan.server_prices.items (λ i l. omega (arith, bounded.servers i l, limit_low));
      host_count = omega (arith, met.many.hosts, length-map it.hosts (λ (h : Host). h.limit), is.hosts.few);
      host_prices = prices_fit plan.host_prices.items (λ i l. omega (arith, bounded.hosts i l, limit_low));
    }

    -- its prices are within the bound
    pub best_low : HasLimitedPrices (network_of it) (best made)
    best_low most within =
        let bounds : BoundsCosts (transport_of it) most = λ k l.
        let inside : k < length (arcs_from 0 it.arcs) = omega (arith, l, length-map (arcs_from 0 it.arcs) row_of) in
        let at : slice_index (transport_of it).costs k ≡ (arc (arcs_from 0 it.arcs) k).cost =
        get_or-map cost_of (arcs_from 0 it.arcs) k no_arc 0 inside in
        let one : (arc (arcs_from 0 it.arcs) k).cost ≤ most =
        All-get_or (λ (a : NetworkArc). a.cost ≤ most) (arcs_from 0 it.arcs) k no_arc inside within in
        omega (arith, at, one) in
        let low = met.low most bounds in (
          All-from_get_or
              (λ price.
              price
              ≤ (length (transport_of it).demands + length (transport_of it).capacities
              + length (transport_of it).limits + 1) * most) plan.source_prices.items 0 low.sources,
          All-from_get_or
              (λ price.
              price
              ≤ (length (transport_of it).demands + length (transport_of it).capacities
              + length (transport_of it).limits + 1) * most) plan.server_prices.items 0 low.servers,
          All-from_get_or
              (λ price.
              price
              ≤ (length (transport_of it).demands + length (transport_of it).capacities
              + length (transport_of it).limits + 1) * most) plan.host_prices.items 0 low.hosts,
        )

-- ---- the same of lists that are equal to those

module _ (it : Instance) (is : IsInstance it) (costs : List ℕ) (same : costs ≡ map cost_of (arcs_from 0 it.arcs)) where
  -- the costs are fewer than 2 ^ 32
  pub costs_few : length costs < 4294967296
  costs_few = rw same (omega (arith, length-map (arcs_from 0 it.arcs) cost_of, few_arcs it is))

  -- no cost is above a million
  pub costs_cheap : (k : ℕ) → k < length costs → slice_index costs k ≤ 1000000
  costs_cheap =
      rw same
      (λ k l.
      costs_low it is k
      (omega (arith, l, length-map (arcs_from 0 it.arcs) row_of, length-map (arcs_from 0 it.arcs) cost_of)))

  module _ (plan : PricedFlow) (met : IsMet (transport_of it) plan) (total : ℕ)
      (sum : total ≡ sum_below (length costs) (λ k. slice_index costs k * slice_index plan.flows.items k)) where
    -- each arc has a cost
    many : length costs ≡ length (arcs_from 0 it.arcs)
    many = ap (λ (xs : List ℕ). length xs) same ∙ length-map (arcs_from 0 it.arcs) cost_of

    -- the cost was added up arc by arc
    pub by_arcs : total
        ≡ sum_below (length (arcs_from 0 it.arcs))
        (λ k. slice_index (transport_of it).costs k * slice_index plan.flows.items k)
    by_arcs = sum ∙ ap (λ n. sum_below n (λ k. slice_index costs k * slice_index plan.flows.items k)) many
        ∙ ap
        (λ (xs : List ℕ). sum_below (length (arcs_from 0 it.arcs))
        (λ k. slice_index xs k * slice_index plan.flows.items k)) same

    -- that sum is within its limit
    pub total_small : total ≤ 8192000000000000
    total_small = omega (arith, by_arcs, cost_low it is plan met)

-- the rows of a short set make a certificate
pub short_is : (it : Instance) → IsInstance it → (set : List Bool) → IsShortSet (transport_of it) set
    → (demand capacity : ℕ) → demand ≤ 10000000000000000 → capacity ≤ 10000000000000000 →
    IsShort (record { rows = flagged_from 0 set; demand = demand; capacity = capacity })
short_is it is set short demand capacity d c =
    record {
      rows = flags_fit 0 set (omega (arith, short.many, length-map it.rows (λ (r : Row). r.count), is.rows.few));
      order = flags_ascend 0 set;
      demand = d;
      capacity = c;
    }

-- a short set makes a valid certificate
pub short_valid : (it : Instance) (set : List Bool) → IsShortSet (transport_of it) set → (demand capacity : ℕ)
    → demand ≡ demand_of (numbered (transport_of it)) (flag_at set) →
    capacity ≡ capacity_of (numbered (transport_of it)) (flag_at set)
    → IsValidSet (network_of it) (record { rows = flagged_from 0 set; demand = demand; capacity = capacity })
short_valid it set short demand capacity d c =
    set_valid it set (short.many ∙ length-map it.rows (λ (r : Row). r.count)) demand capacity d c short.short
