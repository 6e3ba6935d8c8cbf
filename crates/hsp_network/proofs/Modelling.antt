-- A flow on a network's arcs as a flow of the network.
use Rattle.std.proofs.Common.{◌≡◌, ℕ, ◌+◌, ◌-◌, ◌<◌, ◌≤◌, inl, inr, true, false, List, length, slice_index, Option}
use Rattle.std.proofs.Common.{Some, None, if◌then◌else◌, refl, ap, sym, ◌∙◌, arith}
use Rattle.std.proofs.lemmas.Bool.{cases_eq, cases_lt}
use Rattle.hsp_network.specs.Sums.{only, sum_below}
use Rattle.hsp_network.specs.Through.{through}
use Rattle.hsp_network.specs.Network.{Transport, IsNetwork, HasLowPrices, host_of, numbered}
use Rattle.hsp_network.proofs.Numbered.{load_numbers, sent_numbers}
use Rattle.hsp_transport.specs.Flow.{IsFeasible, sent, load, on_host, host_load, is_on}
use Rattle.hsp_transport.specs.Prices.{HasPrices, at_host, price_at}
use Rattle.hsp_transport.proofs.Places.{all_numbers}
use Rattle.hsp_network.specs.Layout.{ArcsOf, IsSmall, base_of, first_of, hosts_of, servers_of, host_node}
use Rattle.hsp_network.specs.Residual.{Flow, Arcs, Sound}
use Rattle.hsp_network.proofs.AddingUp.{only_here, only_there, sum_below_same, term_within}
use Rattle.hsp_network.proofs.Totals.{sum_split, none_ends, one_ends, through_is, only_shift}

-- the node of a host
pub node_low : (o : Option ℕ) (n : ℕ) → ((h : ℕ) → o ≡ Some h → h < n) → host_node o ≤ n
node_low None n inside = omega arith
node_low (Some h) n inside = omega (arith, inside h refl)

-- an amount counts for a host just where its server stands on that host
pub node_only : (o : Option ℕ) (h x : ℕ) → only (host_node o) (1 + h) x ≡ (if is_on o h then x else 0)
node_only None h x = only_there 0 (1 + h) x (λ e. omega arith)
node_only (Some g) h x = elim (cases_eq g h) [
  | inl e ↦ only_here (g + 1) (1 + h) x (omega arith) ∙ sym (only_here g h x e)
  | inr ne ↦ only_there (g + 1) (1 + h) x (λ q. ne (omega arith)) ∙ sym (only_there g h x ne)
]

-- the price of a server's host is that of the host's node
pub node_price : (o : Option ℕ) (price q : List ℕ) → slice_index price 0 ≡ 0
    → ((h : ℕ) → o ≡ Some h → slice_index q h ≡ slice_index price (1 + h)) →
    at_host o (λ h. slice_index q h) ≡ slice_index price (host_node o)
node_price None price q free is = sym free
node_price (Some h) price q free is = let e : 1 + h ≡ h + 1 = omega arith in is h refl ∙ ap (λ n. slice_index price n) e

module _ (net : Transport) (whole : IsNetwork net) (small : IsSmall net) (n : Arcs) (f : Flow)
    (arcs : ArcsOf net n.tails.now n.heads.now n.costs.now n.capacities.now n.supplies.now)
    (sound : Sound n f (λ v. slice_index f.price.now v))
    (flow : ℕ → ℕ) (flow-is : (k : ℕ) → k < length net.sources → flow k ≡ slice_index f.flows.now (base_of net + k))
  where
    many : length f.flows.now ≡ base_of net + length net.sources
    many = sound.flows_many ∙ arcs.tails.many

    nodes : length n.supplies.now ≡ first_of net + length net.demands
    nodes = arcs.supplies.many

    node-low : (j : ℕ) → host_node (host_of net j) ≤ hosts_of net
    node-low j = node_low (host_of net j) (hosts_of net) (λ h e. whole.hosts_in j h e)

    -- what goes through an end: hosts' arcs, servers' arcs and arcs
    parts : (ends : List ℕ) (v : ℕ) → through ends f.flows.now v
        ≡ sum_below (hosts_of net) (λ h. only (slice_index ends h) v (slice_index f.flows.now h))
        + sum_below (servers_of net)
        (λ j. only (slice_index ends (hosts_of net + j)) v (slice_index f.flows.now (hosts_of net + j)))
        + sum_below (length net.sources)
        (λ k. only (slice_index ends (base_of net + k)) v (slice_index f.flows.now (base_of net + k)))
    parts ends v =
        let term : ℕ → ℕ = λ k. only (slice_index ends k) v (slice_index f.flows.now k) in
        let m : sum_below (length f.flows.now) term ≡ sum_below (base_of net + length net.sources) term =
        ap (λ m. sum_below m term) many in
        omega (
          arith,
          through_is ends f.flows.now v,
          sum_split (base_of net) (length net.sources) term,
          sum_split (hosts_of net) (servers_of net) term,
        )

    pub out_source : (i : ℕ) → through n.tails.now f.flows.now (first_of net + i) ≡ sent (numbered net) flow i
    out_source i =
        let a =
        none_ends (hosts_of net) (λ h. slice_index n.tails.now h) (λ h. slice_index f.flows.now h) (first_of net + i)
        (λ h l e. omega (arith, arcs.tails.node h (omega arith))) in
        let b =
        none_ends (servers_of net) (λ j. slice_index n.tails.now (hosts_of net + j))
        (λ j. slice_index f.flows.now (hosts_of net + j)) (first_of net + i)
        (λ j l e. omega (arith, arcs.tails.node (hosts_of net + j) (omega arith))) in
        let c : sum_below (length net.sources)
        (λ k.
        only (slice_index n.tails.now (base_of net + k)) (first_of net + i)
        (slice_index f.flows.now (base_of net + k)))
        ≡ sum_below (length net.sources) (λ k. only (slice_index net.sources k) i (flow k)) =
        sum_below_same (length net.sources) _ _ (λ k l.
        ap (λ m. only m (first_of net + i) (slice_index f.flows.now (base_of net + k))) (arcs.tails.arc k l)
        ∙ only_shift (first_of net) (slice_index net.sources k) i (slice_index f.flows.now (base_of net + k))
        ∙ ap (λ m. only (slice_index net.sources k) i m) (sym (flow-is k l))) in
        omega (arith, parts n.tails.now (first_of net + i), sent_numbers net flow i)

    pub in_source : (i : ℕ) → through n.heads.now f.flows.now (first_of net + i) ≡ 0
    in_source i =
        let a =
        none_ends (hosts_of net) (λ h. slice_index n.heads.now h) (λ h. slice_index f.flows.now h) (first_of net + i)
        (λ h l e. omega (arith, arcs.heads.host h l)) in
        let b =
        none_ends (servers_of net) (λ j. slice_index n.heads.now (hosts_of net + j))
        (λ j. slice_index f.flows.now (hosts_of net + j)) (first_of net + i)
        (λ j l e. omega (arith, arcs.heads.server j l, node-low j)) in
        let c =
        none_ends (length net.sources) (λ k. slice_index n.heads.now (base_of net + k))
        (λ k. slice_index f.flows.now (base_of net + k)) (first_of net + i)
        (λ k l e. omega (arith, arcs.heads.arc k l, whole.servers_in k l)) in
        omega (arith, parts n.heads.now (first_of net + i))

    pub in_server : (j : ℕ) → through n.heads.now f.flows.now (1 + hosts_of net + j) ≡ load (numbered net) flow j
    in_server j =
        let a =
        none_ends (hosts_of net) (λ h. slice_index n.heads.now h) (λ h. slice_index f.flows.now h)
        (1 + hosts_of net + j)
        (λ h l e. omega (arith, arcs.heads.host h l)) in
        let b =
        none_ends (servers_of net) (λ i. slice_index n.heads.now (hosts_of net + i))
        (λ i. slice_index f.flows.now (hosts_of net + i)) (1 + hosts_of net + j)
        (λ i l e. omega (arith, arcs.heads.server i l, node-low i)) in
        let c : sum_below (length net.sources)
        (λ k.
        only (slice_index n.heads.now (base_of net + k)) (1 + hosts_of net + j)
        (slice_index f.flows.now (base_of net + k)))
        ≡ sum_below (length net.sources) (λ k. only (slice_index net.servers k) j (flow k)) =
        sum_below_same (length net.sources) _ _ (λ k l.
        ap (λ m. only m (1 + hosts_of net + j) (slice_index f.flows.now (base_of net + k))) (arcs.heads.arc k l)
        ∙ only_shift (1 + hosts_of net) (slice_index net.servers k) j (slice_index f.flows.now (base_of net + k))
        ∙ ap (λ m. only (slice_index net.servers k) j m) (sym (flow-is k l))) in
        omega (arith, parts n.heads.now (1 + hosts_of net + j), load_numbers net flow j)

    -- the arc of a server or a host has only its tail
    out_node : (v k : ℕ) → v ≡ 1 + k → k < base_of net → through n.tails.now f.flows.now v ≡ slice_index f.flows.now k
    out_node v k is l =
        through_is n.tails.now f.flows.now v
        ∙ one_ends (length f.flows.now) (λ i. slice_index n.tails.now i) (λ i. slice_index f.flows.now i) v k
        (omega (arith, many)) (omega (arith, arcs.tails.node k l))
        (λ i m ne e. elim (cases_lt i (base_of net)) [
          | inl node ↦ ne (omega (arith, arcs.tails.node i node))
          | inr arc ↦
              let place : base_of net + (i - base_of net) ≡ i = omega arith in
              omega (
                arith,
                arcs.tails.arc (i - base_of net) (omega (arith, many)),
                ap (λ a. slice_index n.tails.now a) place,
              )
        ])

    pub in_host : (h : ℕ) → h < hosts_of net
        → through n.heads.now f.flows.now (1 + h)
        ≡ on_host (numbered net) (λ j. slice_index f.flows.now (hosts_of net + j)) h
    in_host h lh =
        let a = none_ends (hosts_of net) (λ g. slice_index n.heads.now g) (λ g. slice_index f.flows.now g) (1 + h)
        (λ g l e. omega (arith, arcs.heads.host g l)) in
        let b : sum_below (servers_of net)
        (λ j. only (slice_index n.heads.now (hosts_of net + j)) (1 + h) (slice_index f.flows.now (hosts_of net + j)))
        ≡ on_host (numbered net) (λ j. slice_index f.flows.now (hosts_of net + j)) h =
        sum_below_same (servers_of net) _ _ (λ j l.
        ap (λ m. only m (1 + h) (slice_index f.flows.now (hosts_of net + j))) (arcs.heads.server j l)
        ∙ node_only (host_of net j) h (slice_index f.flows.now (hosts_of net + j))) in
        let c =
        none_ends (length net.sources) (λ k. slice_index n.heads.now (base_of net + k))
        (λ k. slice_index f.flows.now (base_of net + k)) (1 + h)
        (λ k l e. omega (arith, arcs.heads.arc k l)) in
        omega (arith, parts n.heads.now (1 + h))

    -- a server's and a host's load is what flows on its arc
    pub server_flow : (j : ℕ) → j < servers_of net
        → slice_index f.flows.now (hosts_of net + j) ≡ load (numbered net) flow j
    server_flow j l =
        let v : ℕ = 1 + hosts_of net + j in
        let l' : 1 + hosts_of net + j < length n.supplies.now = omega (arith, nodes) in
        omega (
          arith,
          sound.conserved (1 + hosts_of net + j) l' (λ e. omega arith),
          sound.within (1 + hosts_of net + j) l',
          arcs.supplies.node (1 + hosts_of net + j) (omega arith),
          in_server j,
          out_node (1 + hosts_of net + j) (hosts_of net + j) (omega arith) (omega arith),
        )

    pub host_flow : (h : ℕ) → h < hosts_of net → slice_index f.flows.now h ≡ host_load (numbered net) flow h
    host_flow h l =
        let l' : 1 + h < length n.supplies.now = omega (arith, nodes) in
        let same : on_host (numbered net) (λ j. slice_index f.flows.now (hosts_of net + j)) h
        ≡ host_load (numbered net) flow h =
        sum_below_same (servers_of net) _ _
        (λ j lj. ap (λ m. if is_on (host_of net j) h then m else 0) (server_flow j lj)) in
        omega (
          arith,
          sound.conserved (1 + h) l' (λ e. omega arith),
          sound.within (1 + h) l',
          arcs.supplies.node (1 + h) (omega arith),
          in_host h l,
          out_node (1 + h) h refl (omega arith),
        )

    pub source_flow : (i : ℕ) → i < length net.demands
        → sent (numbered net) flow i + slice_index f.excess.now (first_of net + i) ≡ slice_index net.demands i
    source_flow i l =
        let l' : first_of net + i < length n.supplies.now = omega (arith, nodes) in
        omega (
          arith,
          sound.conserved (first_of net + i) l' (λ e. omega arith),
          arcs.supplies.source i l,
          in_source i,
          out_source i,
        )

    -- an arc always has residual capacity
    pub arc_residual : (k : ℕ) → k < length net.sources → 0 < slice_index f.residual_capacity.now (base_of net + k)
    arc_residual k l =
        let i : ℕ = slice_index net.sources k in
        let w =
        term_within (length net.sources) (λ j. only (slice_index net.sources j) (slice_index net.sources k) (flow j))
        k l in
        let here : only (slice_index net.sources k) (slice_index net.sources k) (flow k) ≡ flow k =
        only_here (slice_index net.sources k) (slice_index net.sources k) (flow k) refl in
        omega (
          arith,
          source_flow (slice_index net.sources k) (whole.sources_in k l),
          small.low (slice_index net.sources k) (whole.sources_in k l),
          sound.balanced (base_of net + k) (omega (arith, arcs.tails.many)),
          arcs.capacities.arc k l,
          flow-is k l,
          sent_numbers net flow (slice_index net.sources k),
        )

    pub feasible : ((i : ℕ) → i < length net.demands → slice_index f.excess.now (first_of net + i) ≡ 0)
        → IsFeasible (numbered net) flow
    feasible met = record {
      met = λ i l. omega (arith, source_flow i l, met i l);
      within =
          λ j l.
          omega (
            arith,
            server_flow j l,
            sound.balanced (hosts_of net + j) (omega (arith, arcs.tails.many)),
            arcs.capacities.server j l,
          );
      hosted =
          λ h l.
          omega (arith, host_flow h l, sound.balanced h (omega (arith, arcs.tails.many)), arcs.capacities.host h l);
    }

    -- what prices at an arc's ends are to its cost, where it has residual capacity and where it has flow
    pays : (k v w : ℕ) → k < length n.tails.now → 0 < slice_index f.residual_capacity.now k
        → slice_index n.tails.now k ≡ v → slice_index n.heads.now k ≡ w →
        slice_index f.price.now v ≤ slice_index n.costs.now k + slice_index f.price.now w
    pays k v w l wide tail head = rw (tail, head) at (sound.paid k true l wide)

    earns : (k v w : ℕ) → k < length n.tails.now → 0 < slice_index f.flows.now k → slice_index n.tails.now k ≡ v
        → slice_index n.heads.now k ≡ w →
        slice_index n.costs.now k + slice_index f.price.now w ≤ slice_index f.price.now v
    earns k v w l used tail head = rw (tail, head) at (sound.paid k false l used)

    arc_in : (k : ℕ) → k < length net.sources → base_of net + k < length n.tails.now
    arc_in k l = omega (arith, arcs.tails.many)

    pub arc_pays : (k : ℕ) → k < length net.sources →
        slice_index f.price.now (first_of net + slice_index net.sources k)
        ≤ slice_index net.costs k + slice_index f.price.now (1 + hosts_of net + slice_index net.servers k)
    arc_pays k l =
        omega (
          arith,
          pays (base_of net + k) _ _ (arc_in k l) (arc_residual k l) (arcs.tails.arc k l) (arcs.heads.arc k l),
          arcs.costs.arc k l,
        )

    pub arc_used : (k : ℕ) → k < length net.sources → 0 < flow k →
        slice_index net.costs k + slice_index f.price.now (1 + hosts_of net + slice_index net.servers k)
        ≤ slice_index f.price.now (first_of net + slice_index net.sources k)
    arc_used k l pos =
        omega (
          arith,
          earns (base_of net + k) _ _ (arc_in k l) (omega (arith, flow-is k l)) (arcs.tails.arc k l)
              (arcs.heads.arc k l),
          arcs.costs.arc k l,
        )

    -- a server's arc, to its host or to the sink
    server_tail : (j : ℕ) → j < servers_of net → slice_index n.tails.now (hosts_of net + j) ≡ 1 + hosts_of net + j
    server_tail j l = omega (arith, arcs.tails.node (hosts_of net + j) (omega arith))

    pub server_idle : (j : ℕ) → j < servers_of net → load (numbered net) flow j < slice_index net.capacities j →
        slice_index f.price.now (1 + hosts_of net + j) ≤ slice_index f.price.now (host_node (host_of net j))
    server_idle j l idle =
        let in' : hosts_of net + j < length n.tails.now = omega (arith, arcs.tails.many) in
        let wide : 0 < slice_index f.residual_capacity.now (hosts_of net + j) =
        omega (arith, server_flow j l, sound.balanced (hosts_of net + j) in', arcs.capacities.server j l) in
        omega (
          arith,
          pays (hosts_of net + j) _ _ in' wide (server_tail j l) (arcs.heads.server j l),
          arcs.costs.node (hosts_of net + j) (omega arith),
        )

    pub server_busy : (j : ℕ) → j < servers_of net → 0 < load (numbered net) flow j →
        slice_index f.price.now (host_node (host_of net j)) ≤ slice_index f.price.now (1 + hosts_of net + j)
    server_busy j l busy =
        let in' : hosts_of net + j < length n.tails.now = omega (arith, arcs.tails.many) in
        let used : 0 < slice_index f.flows.now (hosts_of net + j) = omega (arith, server_flow j l) in
        omega (
          arith,
          earns (hosts_of net + j) _ _ in' used (server_tail j l) (arcs.heads.server j l),
          arcs.costs.node (hosts_of net + j) (omega arith),
        )

    pub host_idle : (h : ℕ) → h < hosts_of net → host_load (numbered net) flow h < slice_index net.limits h
        → slice_index f.price.now (1 + h) ≡ 0
    host_idle h l idle =
        let in' : h < length n.tails.now = omega (arith, arcs.tails.many) in
        let wide : 0 < slice_index f.residual_capacity.now h =
        omega (arith, host_flow h l, sound.balanced h in', arcs.capacities.host h l) in
        omega (
          arith,
          pays h _ _ in' wide (arcs.tails.node h (omega arith)) (arcs.heads.host h l),
          sound.sink_free,
          arcs.costs.node h (omega arith),
        )

    module _ (u p q : List ℕ) (um : length u ≡ length net.demands) (pm : length p ≡ servers_of net)
        (qm : length q ≡ hosts_of net)
        (u-is : (i : ℕ) → i < length net.demands → slice_index u i ≡ slice_index f.price.now (first_of net + i))
        (p-is : (j : ℕ) → j < servers_of net
        → slice_index p j
        ≡ slice_index f.price.now (1 + hosts_of net + j) - slice_index f.price.now (host_node (host_of net j)))
        (q-is : (h : ℕ) → h < hosts_of net → slice_index q h ≡ slice_index f.price.now (1 + h)) where
      above : (j : ℕ)
          → at_host (host_of net j) (λ h. slice_index q h) ≡ slice_index f.price.now (host_node (host_of net j))
      above j = node_price (host_of net j) f.price.now q sound.sink_free (λ h e. q-is h (whole.hosts_in j h e))

      -- what a unit on the arc costs with all prices
      abbrev cost_in_all : ℕ → ℕ
      cost_in_all k = slice_index net.costs k + price_at (numbered net) p q (slice_index net.servers k)

      pub has_prices : HasPrices (numbered net) flow u p q
      has_prices = record {
        below =
            all_numbers (λ k. slice_index u (slice_index net.sources k) ≤ cost_in_all k) (length net.sources)
            (λ k l.
            omega (
              arith,
              u-is (slice_index net.sources k) (whole.sources_in k l),
              p-is (slice_index net.servers k) (whole.servers_in k l),
              arc_pays k l,
              above (slice_index net.servers k),
            ));
        used =
            all_numbers (λ k. 0 < flow k → slice_index u (slice_index net.sources k) ≡ cost_in_all k)
            (length net.sources)
            (λ k l pos.
            let j : ℕ = slice_index net.servers k in
            let w =
            term_within (length net.sources)
            (λ i. only (slice_index net.servers i) (slice_index net.servers k) (flow i)) k l in
            let here : only (slice_index net.servers k) (slice_index net.servers k) (flow k) ≡ flow k =
            only_here (slice_index net.servers k) (slice_index net.servers k) (flow k) refl in
            omega (
              arith,
              u-is (slice_index net.sources k) (whole.sources_in k l),
              p-is (slice_index net.servers k) (whole.servers_in k l),
              arc_pays k l,
              arc_used k l pos,
              above (slice_index net.servers k),
              server_busy (slice_index net.servers k) (whole.servers_in k l)
                  (omega (arith, load_numbers net flow (slice_index net.servers k))),
            ));
        idle = λ j l less. omega (arith, p-is j l, server_idle j l less);
        idle_host = λ h l less. q-is h l ∙ host_idle h l less;
      }

      pub low_prices : (price_bound : ℕ)
          → ((v : ℕ) → v < length n.supplies.now → slice_index f.price.now v ≤ price_bound)
          → HasLowPrices u p q price_bound
      low_prices price_bound low = record {
        sources = λ i l. omega (arith, u-is i (omega arith), low (first_of net + i) (omega (arith, nodes)));
        servers = λ j l. omega (arith, p-is j (omega arith), low (1 + hosts_of net + j) (omega (arith, nodes)));
        hosts = λ h l. omega (arith, q-is h (omega arith), low (1 + h) (omega (arith, nodes)));
      }
