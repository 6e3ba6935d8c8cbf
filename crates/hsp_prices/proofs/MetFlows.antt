-- A flow with prices that meets the network of groups: what it sends from each, and what it brings to servers.
use Rattle.std.proofs.Common.{◌≡◌, ℕ, ◌+◌, ◌<◌, ◌≤◌, ◌==◌, ◌∙◌, List, length, sum_by, zip, Some, get_or}
use Rattle.std.proofs.Common.{[], slice_index, refl, ap, ap₂, sym, subst, arith, zero-add}
use Rattle.std.specs.List.{AllByRecursion, slice_get}
use Rattle.std.proofs.lemmas.List.{get_or-map, get_or_default, length-map}
use Rattle.std.proofs.lemmas.List.Elements.{recursion_from_All}
use Rattle.std.proofs.lemmas.Option.{get_or_from_slice_get, slice_get_within}
use Rattle.std.proofs.lemmas.Slice.Zip.{get_or-zip, length-zip}
use Rattle.hsp_transport.specs.Flow.{load}
use Rattle.hsp_transport.specs.Prices as theory
use Rattle.hsp_transport.specs.Sums.{only, sum_below}
use Rattle.hsp_transport.proofs.Places.{each_number}
use Rattle.hsp_transport.proofs.Rowwise.{when}
use Rattle.hsp_network.specs.Answer.{IsMet}
use Rattle.hsp_network.specs.Network.{Transport, numbered}
use Rattle.hsp_network.specs.declared.network.PricedFlow.{PricedFlow}
use Rattle.hsp_network.proofs.Numbered.{load_numbers, sent_numbers}
use Rattle.hsp_instance.specs.declared.arc.Arc.{Arc}
use Rattle.hsp_check.specs.declared.arc.NetworkArc.{NetworkArc}
use Rattle.hsp_check.specs.Instance.{arcs_from}
use Rattle.hsp_check.specs.Prices.{at_host}
use Rattle.hsp_prices.specs.Rows.{Service}
use Rattle.hsp_price_text.specs.Claim.{Best}
use Rattle.hsp_prices.specs.Least.{host_at, price_at}
use Rattle.hsp_prices.specs.Groups.{Group, network_of_groups}
use Rattle.hsp_prices.specs.Solved.{flow_to}
use Rattle.hsp_prices.proofs.Beside.{sum_columns}
use Rattle.hsp_prices.proofs.SentFlows.{Fits, IsSent, all_arcs, each_sent, lists_of, same_column, same_many}
use Rattle.hsp_prices.proofs.SentFlows.{sent_of, sum_sent}

module _ (at : Service) (groups : List Group) (flow : PricedFlow) (met : IsMet (network_of_groups at groups) flow) where
  -- the network of the groups
  abbrev pub net : Transport
  net = network_of_groups at groups

  -- its arcs
  abbrev arcs : List NetworkArc
  arcs = arcs_from 0 (lists_of groups)

  -- what flows on them
  abbrev flows : List ℕ
  flows = flow.flows.items

  -- what flows on an arc, by its number
  abbrev pub on_arc : ℕ → ℕ
  on_arc k = slice_index flow.flows.items k

  -- an arc of no source
  no_arc : NetworkArc
  no_arc = record { row = 0; site = 0; server = 0; cost = 0 }

  -- an arc of no group
  no_own_arc : Arc
  no_own_arc = record { site = 0; server = 0; cost = 0 }

  -- a group with nothing
  no_group : Group
  no_group = record { region = []; arcs = []; demand = 0 }

  -- each arc has a flow
  many : length flows ≡ length arcs
  many = met.many.flows ∙ length-map arcs (λ (a : NetworkArc). a.row)

  -- a server takes what flows to it from all groups
  pub load_is : (j : ℕ) → load (numbered net) on_arc j ≡ sum_by (flow_to j) (sent_of groups flows)
  load_is j =
      load_numbers net on_arc j
      ∙ ap₂ (λ n servers. sum_below n (λ k. when (slice_index servers k == j) (slice_index flows k)))
      (length-map arcs (λ (a : NetworkArc). a.row) ∙ same_many 0 groups)
      (same_column (λ (a : NetworkArc). a.server) (λ (a : Arc). a.server) (λ i a. refl) 0 groups)
      ∙ sum_columns (λ v f. when (v == j) f) (λ (a : Arc). a.server) no_own_arc (all_arcs groups) flows
      (many ∙ same_many 0 groups)
      ∙ sum_sent (λ (x : Arc × ℕ). when (x.0.server == j) x.1) groups flows

  -- a group's arcs carry what it asks for
  sources_met : (k : ℕ) (group : Group) → slice_get groups k ≡ Some group
      → sum_by (λ (x : NetworkArc × ℕ). when (x.0.row == 0 + k) x.1) (zip arcs flows) ≡ group.demand
  sources_met k group here =
      let inside : k < length groups = slice_get_within groups k group here in
      ap (λ n. sum_by (λ (x : NetworkArc × ℕ). when (x.0.row == n) x.1) (zip arcs flows)) (zero-add k)
      ∙ sym
      (sum_columns (λ v f. when (v == k) f) (λ (a : NetworkArc). a.row) no_arc arcs flows many)
      ∙ sym
      (ap (λ n. sum_below n (λ i. only (slice_index net.sources i) k (on_arc i)))
      (length-map arcs (λ (a : NetworkArc). a.row)))
      ∙ sym (sent_numbers net on_arc k)
      ∙ met.balanced.feasible.met k (omega (arith, inside, length-map groups (λ (g : Group). g.demand)))
      ∙ get_or-map (λ (g : Group). g.demand) groups k no_group 0 inside
      ∙ ap (λ (g : Group). g.demand) (get_or_from_slice_get groups k group no_group here)

  module _ (plan : Best) (server_prices : plan.server_prices ≡ flow.server_prices.items)
      (host_prices : plan.host_prices ≡ flow.host_prices.items) where
    -- a server is priced as in the plan
    same_price : (j : ℕ)
        → theory.price_at (numbered net) flow.server_prices.items flow.host_prices.items j ≡ price_at at plan j
    same_price j =
        ap₂ (λ p q. slice_index p j + at_host (host_at at j) (λ h. slice_index q h)) (sym server_prices)
        (sym host_prices)

    -- each arc fits the prices
    fit : AllByRecursion (Fits at plan flow.source_prices.items) (zip arcs flows)
    fit =
        recursion_from_All (Fits at plan flow.source_prices.items) (zip arcs flows)
        (λ k d l.
        let inside : k < length arcs = omega (arith, l, many, length-zip arcs flows) in
        let carried : k < length flows = omega (arith, inside, many) in
        let numbered_k : k < length net.sources =
        omega (arith, inside, length-map arcs (λ (a : NetworkArc). a.row)) in
        let a = get_or arcs k d.0 in
        let row : slice_index net.sources k ≡ a.row = get_or-map (λ (a : NetworkArc). a.row) arcs k d.0 0 inside in
        let cost : slice_index net.costs k ≡ a.cost = get_or-map (λ (a : NetworkArc). a.cost) arcs k d.0 0 inside in
        let server : slice_index net.servers k ≡ a.server =
        get_or-map (λ (a : NetworkArc). a.server) arcs k d.0 0 inside in
        let own : on_arc k ≡ get_or flows k d.1 = get_or_default flows k 0 d.1 carried in
        let source = ap (λ i. slice_index flow.source_prices.items i) row in
        let paid :
        theory.price_at (numbered net) flow.server_prices.items flow.host_prices.items (slice_index net.servers k)
        ≡ price_at at plan a.server =
        ap (theory.price_at (numbered net) flow.server_prices.items flow.host_prices.items) server
        ∙ same_price a.server in
        let below =
        each_number
        (λ k.
        slice_index flow.source_prices.items (slice_index net.sources k)
        ≤ slice_index net.costs k
        + theory.price_at (numbered net) flow.server_prices.items flow.host_prices.items (slice_index net.servers k))
        (length net.sources) met.balanced.prices.below k numbered_k in
        let used =
        each_number
        (λ k. 0 < on_arc k
        → slice_index flow.source_prices.items (slice_index net.sources k)
        ≡ slice_index net.costs k
        + theory.price_at (numbered net) flow.server_prices.items flow.host_prices.items (slice_index net.servers k))
        (length net.sources) met.balanced.prices.used k numbered_k in
        subst (Fits at plan flow.source_prices.items) (sym (get_or-zip arcs flows k d inside carried)) (
          omega (arith, source, cost, paid, below),
          (λ some. omega (arith, source, cost, paid, used (omega (arith, own, some)))),
        ))

    -- so each group sends what it asks for over its least arcs
    pub sent_is : AllByRecursion (IsSent at plan) (sent_of groups flows)
    sent_is = each_sent at plan flow.source_prices.items 0 groups flows many sources_met fit
