-- The lists of a network's arcs make a graph whose numbers fit.
use Rattle.std.proofs.Common.{◌≡◌, ℕ, ◌+◌, ◌-◌, ◌*◌, ◌<◌, ◌≤◌, ◌⊎◌, inl, inr, List, length, slice_index, refl, ap, sym}
use Rattle.std.proofs.Common.{◌∙◌, arith, mul-zero}
use Rattle.std.proofs.lemmas.Bool.{cases_lt}
use Rattle.hsp_network.specs.Network.{Transport, IsNetwork, host_of}
use Rattle.hsp_network.specs.Layout.{ArcsOf, IsSmall, base_of, first_of, hosts_of, servers_of, host_node}
use Rattle.hsp_network.specs.Graph.{Graph, Scale}
use Rattle.hsp_network.proofs.Modelling.{node_low}

-- an arc is a host's, a server's or an arc
abbrev Kind : Transport → ℕ → Type 0
Kind net k =
    (k < hosts_of net)
    ⊎ (((j : ℕ) × (j < servers_of net) × (k ≡ hosts_of net + j))
    ⊎ ((a : ℕ) × (a < length net.sources) × (k ≡ base_of net + a)))

-- each arc leads from a server, from a host or from a source
kind : (net : Transport) (k : ℕ) → k < base_of net + length net.sources → Kind net k
kind net k l = elim (cases_lt k (hosts_of net)) [
  | inl host ↦ inl host
  | inr more ↦ elim (cases_lt k (base_of net)) [
    | inl server ↦ inr (inl (k - hosts_of net, omega arith, omega arith))
    | inr arc ↦ inr (inr (k - base_of net, omega arith, omega arith))
  ]
]

module _ (net : Transport) (whole : IsNetwork net) (small : IsSmall net)
    (tails heads costs capacities supplies : List ℕ)
    (arcs : ArcsOf net tails heads costs capacities supplies) where
  -- the node of a host comes before those of servers
  node-low : (j : ℕ) → host_node (host_of net j) ≤ hosts_of net
  node-low j = node_low (host_of net j) (hosts_of net) (λ h e. whole.hosts_in j h e)

  -- where an arc leads
  record Ends (k : ℕ) : Type 0 where
    tail_in : slice_index tails k < length supplies
    down : slice_index heads k < slice_index tails k
    low : slice_index heads k < first_of net
    cheap : slice_index tails k < first_of net → slice_index costs k ≡ 0
    dear : (greatest_cost : ℕ) → ((a : ℕ) → a < length net.sources → slice_index net.costs a ≤ greatest_cost)
        → slice_index costs k ≤ greatest_cost

  -- both ends of each arc are nodes
  ends : (k : ℕ) → k < length tails → Ends k
  ends k l = elim (kind net k (omega (arith, arcs.tails.many))) [
    | inl host ↦ record {
      tail_in = omega (arith, arcs.tails.node k (omega arith), arcs.supplies.many);
      down = omega (arith, arcs.tails.node k (omega arith), arcs.heads.host k host);
      low = omega (arith, arcs.heads.host k host);
      cheap = λ _. arcs.costs.node k (omega arith);
      dear = λ greatest_cost low. omega (arith, arcs.costs.node k (omega arith));
    }
    | inr (inl s) ↦ rw s.2 (record {
      tail_in = omega (arith, s.1, arcs.tails.node (hosts_of net + s.0) (omega (arith, s.1)), arcs.supplies.many);
      down =
          omega (
            arith,
            s.1,
            arcs.tails.node (hosts_of net + s.0) (omega (arith, s.1)),
            arcs.heads.server s.0 s.1,
            node-low s.0,
          );
      low = omega (arith, s.1, arcs.heads.server s.0 s.1, node-low s.0);
      cheap = λ _. arcs.costs.node (hosts_of net + s.0) (omega (arith, s.1));
      dear = λ greatest_cost low. omega (arith, arcs.costs.node (hosts_of net + s.0) (omega (arith, s.1)));
    })
    | inr (inr a) ↦ rw a.2 (record {
      tail_in = omega (arith, arcs.tails.arc a.0 a.1, whole.sources_in a.0 a.1, arcs.supplies.many);
      down = omega (arith, arcs.tails.arc a.0 a.1, arcs.heads.arc a.0 a.1, whole.servers_in a.0 a.1);
      low = omega (arith, arcs.heads.arc a.0 a.1, whole.servers_in a.0 a.1);
      cheap = λ q. absurd (omega (arith, arcs.tails.arc a.0 a.1));
      dear = λ greatest_cost low. omega (arith, arcs.costs.arc a.0 a.1, low a.0 a.1);
    })
  ]

  -- the lists are those of a graph
  pub graph_of : Graph (length supplies) tails heads costs capacities supplies
  graph_of = record {
    heads_many = arcs.heads.many ∙ sym arcs.tails.many;
    costs_many = arcs.costs.many ∙ sym arcs.tails.many;
    capacities_many = arcs.capacities.many ∙ sym arcs.tails.many;
    supplies_many = refl;
    tails_in = λ k l. (ends k l).tail_in;
    down = λ k l. (ends k l).down;
  }

  -- costs and prices stay within the range of their numbers
  pub scale_of : (greatest_cost price_bound longest_arc : ℕ)
      → ((k : ℕ) → k < length net.sources → slice_index net.costs k ≤ greatest_cost) →
      price_bound ≡ length supplies * greatest_cost → longest_arc ≡ price_bound + greatest_cost
      → 2 * price_bound + longest_arc < 18446744073709551615 →
      Scale (first_of net) (length supplies) tails heads costs greatest_cost price_bound longest_arc
  scale_of greatest_cost price_bound longest_arc dear price_bound-is longest_arc-is fit = record {
    dear = λ k l. (ends k l).dear greatest_cost dear;
    free = λ k l. (ends k l).cheap;
    low = λ k l. (ends k l).low;
    limit_is = price_bound-is;
    step_is = longest_arc-is;
    small = fit;
    few = omega (arith, arcs.supplies.many, small.few);
  }

-- three times what so many nodes cost at most fits
pub costs_fit : (net : Transport) (nodes greatest_cost : ℕ) → IsSmall net → nodes ≡ first_of net + length net.demands
    → length net.costs ≡ length net.sources →
    (greatest_cost ≡ 0) ⊎ ((k : ℕ) × (k < length net.costs) × (slice_index net.costs k ≡ greatest_cost)) →
    3 * ((nodes + 1) * greatest_cost) < 18446744073709551615
costs_fit net nodes greatest_cost small is many (inl zero) =
    let a : (nodes + 1) * greatest_cost ≡ 0 = ap (λ n. (nodes + 1) * n) zero ∙ mul-zero (nodes + 1) in
    omega (arith, a)
costs_fit net nodes greatest_cost small is many (inr k) =
    let e : first_of net + length net.demands + 1 ≡ nodes + 1 = omega arith in
    let c = small.cheap k.0 (omega (arith, k.1)) in
    rw (e, k.2) at c
