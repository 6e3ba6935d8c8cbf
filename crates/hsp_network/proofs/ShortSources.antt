-- The sources that a search reached that didn't come to the sink demand more than the servers that they may use can
-- take.
use Rattle.std.proofs.Common.{◌≡◌, ℕ, ◌+◌, ◌<◌, ◌≤◌, ◌==◌, ◌&&◌, inl, inr, Bool, true, false, length, slice_index}
use Rattle.std.proofs.Common.{Option, Some, None, is_none, min, if◌then◌else◌, refl, ap, sym, ◌∙◌, arith, eqb-true}
use Rattle.std.proofs.lemmas.Bool.{cases_eq, cases_lt, cases_Bool, and_parts}
use Rattle.hsp_network.specs.Sums.{only, sum_below}
use Rattle.hsp_network.specs.Network.{Transport, IsNetwork, host_of, numbered}
use Rattle.hsp_network.proofs.Numbered.{load_numbers, reaches_numbers, sent_numbers}
use Rattle.hsp_transport.specs.Cut.{IsShort, reaches, reached_capacity, capacity_of, demand_of}
use Rattle.hsp_transport.specs.Flow.{sent, load, on_host, host_load, is_on}
use Rattle.hsp_network.specs.Layout.{ArcsOf, IsSmall, base_of, first_of, hosts_of, servers_of, host_node}
use Rattle.hsp_network.specs.Residual.{Flow, Arcs, SearchTree, Sound, from, to, width}
use Rattle.hsp_network.specs.Search.{Closed, top}
use Rattle.hsp_network.proofs.AddingUp.{only_here, only_there, sum_below_same, sum_below_le, sum_below_lt}
use Rattle.hsp_network.proofs.Totals.{by_key, any_at, only_when}
use Rattle.hsp_transport.proofs.Duality.{split_host}
use Rattle.hsp_network.proofs.Modelling.{server_flow, host_flow, source_flow, arc_residual}

-- the node of a server's host
node_of : (o : Option ℕ) (h : ℕ) → is_on o h ≡ true → host_node o ≡ 1 + h
node_of None h e = absurd cc
node_of (Some g) h e = let q : g ≡ h = eqb-true g h e in omega arith

-- a server on no host leads straight to the sink
none_of : (o : Option ℕ) → is_none o ≡ true → host_node o ≡ 0
none_of None e = refl
none_of (Some g) e = absurd cc

module _ (net : Transport) (whole : IsNetwork net) (small : IsSmall net) (n : Arcs) (f : Flow)
    (arcs : ArcsOf net n.tails.now n.heads.now n.costs.now n.capacities.now n.supplies.now)
    (sound : Sound n f (λ v. slice_index f.price.now v))
    (t : SearchTree) (root : ℕ) (closed : Closed n f t root)
    (set : ℕ → Bool)
    (set-is : (i : ℕ) → i < length net.demands → set i ≡ true → slice_index t.distance.now (first_of net + i) < top)
    (is-set : (i : ℕ) → i < length net.demands → slice_index t.distance.now (first_of net + i) < top → set i ≡ true)
  where
    abbrev flow : ℕ → ℕ
    flow k = slice_index f.flows.now (base_of net + k)

    -- what the set's sources send
    abbrev part : ℕ → ℕ
    part k = if set (slice_index net.sources k) then slice_index f.flows.now (base_of net + k) else 0

    arc_in : (k : ℕ) → k < length net.sources → base_of net + k < length n.tails.now
    arc_in k l = omega (arith, arcs.tails.many)

    -- over a residual arc from a reached node
    out : (k : ℕ) (d : Bool) (v w : ℕ) → k < length n.tails.now → 0 < width f k d → from n k d ≡ v → to n k d ≡ w →
        slice_index t.distance.now v < top → slice_index t.distance.now w < top
    out k d v w l wide start end near = rw end at (closed.out k d l wide (rw start near))

    -- a reached source reaches the servers of its arcs
    arc_out : (k : ℕ) → k < length net.sources → set (slice_index net.sources k) ≡ true
        → slice_index t.distance.now (1 + hosts_of net + slice_index net.servers k) < top
    arc_out k l inside =
        out (base_of net + k) true _ _ (arc_in k l) (arc_residual net whole small n f arcs sound flow (λ j m. refl) k l)
        (arcs.tails.arc k l) (arcs.heads.arc k l)
        (set-is (slice_index net.sources k) (whole.sources_in k l) inside)

    -- a reached server reaches the sources that it serves
    arc_back : (k : ℕ) → k < length net.sources → 0 < flow k
        → slice_index t.distance.now (1 + hosts_of net + slice_index net.servers k) < top
        → set (slice_index net.sources k) ≡ true
    arc_back k l pos near =
        is-set (slice_index net.sources k) (whole.sources_in k l)
        (out (base_of net + k) false _ _ (arc_in k l) pos (arcs.heads.arc k l) (arcs.tails.arc k l) near)

    server_tail : (j : ℕ) → j < servers_of net → slice_index n.tails.now (hosts_of net + j) ≡ 1 + hosts_of net + j
    server_tail j l = omega (arith, arcs.tails.node (hosts_of net + j) (omega arith))

    part_le : (k : ℕ) → part k ≤ flow k
    part_le k =
        elim (cases_Bool (set (slice_index net.sources k))) [ inl t ↦ rw t (omega arith) | inr f ↦ rw f (omega arith) ]

    part_same : (k : ℕ) → k < length net.sources
        → slice_index t.distance.now (1 + hosts_of net + slice_index net.servers k) < top → part k ≡ flow k
    part_same k l near = elim (cases_lt 0 (flow k)) [
      | inl pos ↦ rw (arc_back k l pos near) refl
      | inr none ↦ omega (arith, part_le k)
    ]

    load_le : (j : ℕ) → load (numbered net) part j ≤ load (numbered net) flow j
    load_le j =
        let less =
        sum_below_le (length net.sources) (λ k. only (slice_index net.servers k) j (part k))
        (λ k. only (slice_index net.servers k) j (flow k))
        (λ k l. elim (cases_eq (slice_index net.servers k) j) [
          | inl e ↦
              omega (
                arith,
                only_here (slice_index net.servers k) j (part k) e,
                only_here (slice_index net.servers k) j (flow k) e,
                part_le k,
              )
          | inr ne ↦ omega (arith, only_there (slice_index net.servers k) j (part k) ne)
        ]) in
        omega (arith, less, load_numbers net part j, load_numbers net flow j)

    -- a reached server serves only the set
    load_same : (j : ℕ) → slice_index t.distance.now (1 + hosts_of net + j) < top
        → load (numbered net) part j ≡ load (numbered net) flow j
    load_same j near =
        load_numbers net part j
        ∙ sum_below_same (length net.sources) _ _ (λ k l. elim (cases_eq (slice_index net.servers k) j) [
          | inl e ↦
              let q : slice_index t.distance.now (1 + hosts_of net + slice_index net.servers k)
              ≡ slice_index t.distance.now (1 + hosts_of net + j) =
              ap (λ m. slice_index t.distance.now (1 + hosts_of net + m)) e in
              ap (λ m. only (slice_index net.servers k) j m) (part_same k l (omega arith))
          | inr ne ↦
              only_there (slice_index net.servers k) j (part k) ne
              ∙ sym (only_there (slice_index net.servers k) j (flow k) ne)
        ]) ∙ sym (load_numbers net flow j)

    served : (j : ℕ) → j < servers_of net → slice_index f.flows.now (hosts_of net + j) ≡ load (numbered net) flow j
    served j l = server_flow net whole small n f arcs sound flow (λ k m. refl) j l

    -- a server that the set may use is reached
    server_near : (j : ℕ) → reaches (numbered net) set j ≡ true
        → slice_index t.distance.now (1 + hosts_of net + j) < top
    server_near j inside =
        let w =
        any_at (length net.sources) (λ k. set (slice_index net.sources k) && (slice_index net.servers k == j))
        (sym (reaches_numbers net set j) ∙ inside) in
        let parts = and_parts _ _ w.2 in
        let e : slice_index net.servers w.0 ≡ j = eqb-true (slice_index net.servers w.0) j parts.1 in
        let q : slice_index t.distance.now (1 + hosts_of net + slice_index net.servers w.0)
        ≡ slice_index t.distance.now (1 + hosts_of net + j) =
        ap (λ m. slice_index t.distance.now (1 + hosts_of net + m)) e in
        omega (arith, arc_out w.0 w.1 parts.0)

    -- a reached server whose arc leads out of what is reached is full
    full : (j : ℕ) → j < servers_of net → slice_index t.distance.now (1 + hosts_of net + j) < top
        → top ≤ slice_index t.distance.now (host_node (host_of net j)) →
        load (numbered net) flow j ≡ slice_index net.capacities j
    full j l near far =
        let in' : hosts_of net + j < length n.tails.now = omega (arith, arcs.tails.many) in
        let shut : slice_index f.residual_capacity.now (hosts_of net + j) ≡ 0 =
        elim (cases_eq (slice_index f.residual_capacity.now (hosts_of net + j)) 0) [
          | inl z ↦ z
          | inr wide ↦
              absurd
              (omega
              (arith, out (hosts_of net + j) true _ _ in' (omega arith) (server_tail j l) (arcs.heads.server j l) near))
        ] in
        omega (arith, sound.balanced (hosts_of net + j) in', arcs.capacities.server j l, served j l)

    capacity_le : (j : ℕ) → j < servers_of net → top ≤ slice_index t.distance.now (host_node (host_of net j))
        → reached_capacity (numbered net) set j ≤ load (numbered net) part j
    capacity_le j l far = elim (cases_Bool (reaches (numbered net) set j)) [
      | inl inside ↦ rw inside (omega (arith, full j l (server_near j inside) far, load_same j (server_near j inside)))
      | inr outside ↦ rw outside (omega arith)
    ]

    -- a reached host is full, and serves only the set
    host_near : (h : ℕ) → h < hosts_of net → slice_index t.distance.now (1 + h) < top
        → slice_index net.limits h ≤ on_host (numbered net) (λ j. load (numbered net) part j) h
    host_near h l near =
        let in' : h < length n.tails.now = omega (arith, arcs.tails.many) in
        let shut : slice_index f.residual_capacity.now h ≡ 0 =
        elim (cases_eq (slice_index f.residual_capacity.now h) 0) [
          | inl z ↦ z
          | inr wide ↦
              absurd
              (omega (
                arith,
                out h true _ _ in' (omega arith) (arcs.tails.node h (omega arith)) (arcs.heads.host h l) near,
                closed.sink_out,
              ))
        ] in
        let all : on_host (numbered net) (λ j. load (numbered net) part j) h ≡ host_load (numbered net) flow h =
        sum_below_same (servers_of net) _ _ (λ j lj.
        elim (cases_Bool (is_on (host_of net j) h)) [
          | inl on ↦
              ap (λ m. if is_on (host_of net j) h then m else 0) (elim (cases_lt 0 (load (numbered net) flow j)) [
                | inl busy ↦
                    let in'' : hosts_of net + j < length n.tails.now = omega (arith, arcs.tails.many) in
                    load_same j
                    (out (hosts_of net + j) false _ _ in'' (omega (arith, served j lj))
                    (arcs.heads.server j lj ∙ node_of (host_of net j) h on) (server_tail j lj) near)
                | inr none ↦ omega (arith, load_le j)
              ])
          | inr off ↦ rw off refl
        ]) in
        omega (
          arith,
          sound.balanced h in',
          arcs.capacities.host h l,
          host_flow net whole small n f arcs sound flow (λ k m. refl) h l,
        )

    host_le : (h : ℕ) → h < hosts_of net
        → min (slice_index net.limits h) (on_host (numbered net) (λ j. reached_capacity (numbered net) set j) h)
        ≤ on_host (numbered net) (λ j. load (numbered net) part j) h
    host_le h l = elim (cases_lt (slice_index t.distance.now (1 + h)) top) [
      | inl near ↦ omega (arith, host_near h l near)
      | inr far ↦
          let each : on_host (numbered net) (λ j. reached_capacity (numbered net) set j) h
          ≤ on_host (numbered net) (λ j. load (numbered net) part j) h =
          sum_below_le (servers_of net) _ _ (λ j lj. elim (cases_Bool (is_on (host_of net j) h)) [
            | inl on ↦
                let q : slice_index t.distance.now (host_node (host_of net j)) ≡ slice_index t.distance.now (1 + h) =
                ap (λ m. slice_index t.distance.now m) (node_of (host_of net j) h on) in
                rw on (capacity_le j lj (omega arith))
            | inr off ↦ rw off (omega arith)
          ]) in
          omega arith
    ]

    -- what the set's servers can take, it sends
    capacity_sent : capacity_of (numbered net) set ≤ sum_below (length net.sources) part
    capacity_sent =
        let unhosted : sum_below (servers_of net)
        (λ j. if is_none (host_of net j) then reached_capacity (numbered net) set j else 0)
        ≤ sum_below (servers_of net) (λ j. if is_none (host_of net j) then load (numbered net) part j else 0) =
        sum_below_le (servers_of net) _ _ (λ j l. elim (cases_Bool (is_none (host_of net j))) [
          | inl none ↦
              let q : slice_index t.distance.now (host_node (host_of net j)) ≡ slice_index t.distance.now 0 =
              ap (λ m. slice_index t.distance.now m) (none_of (host_of net j) none) in
              rw none (capacity_le j l (omega (arith, closed.sink_out)))
          | inr some ↦ rw some (omega arith)
        ]) in
        let hosted : sum_below (hosts_of net)
        (λ h. min (slice_index net.limits h) (on_host (numbered net) (λ j. reached_capacity (numbered net) set j) h))
        ≤ sum_below (hosts_of net) (λ h. on_host (numbered net) (λ j. load (numbered net) part j) h) =
        sum_below_le (hosts_of net) _ _ (λ h l. host_le h l) in
        omega (
          arith,
          by_key (λ k. slice_index net.servers k) part (servers_of net) (length net.sources) whole.servers_in
              ∙ sum_below_same (servers_of net) _ _ (λ j l. sym (load_numbers net part j)),
          split_host (λ j. host_of net j) (λ j. load (numbered net) part j) (servers_of net) (hosts_of net)
              (λ j h l e. whole.hosts_in j h e),
        )

    sent_part : (i : ℕ) → sent (numbered net) part i ≡ (if set i then sent (numbered net) flow i else 0)
    sent_part i =
        sent_numbers net part i
        ∙ only_when (length net.sources) (λ k. slice_index net.sources k) flow set i
        ∙ ap (λ s. if set i then s else 0) (sym (sent_numbers net flow i))

    pub is_short : (i : ℕ) → i < length net.demands → root ≡ first_of net + i → 0 < slice_index f.excess.now root
        → IsShort (numbered net) set
    is_short i l e some =
        let flows-of : (s : ℕ) → s < length net.demands
        → sent (numbered net) flow s + slice_index f.excess.now (first_of net + s) ≡ slice_index net.demands s =
        λ s m. source_flow net whole small n f arcs sound flow (λ k q. refl) s m in
        let near : set i ≡ true = is-set i l (rw e at closed.root_in) in
        let left : slice_index f.excess.now root ≡ slice_index f.excess.now (first_of net + i) =
        ap (λ m. slice_index f.excess.now m) e in
        let less : sum_below (length net.demands) (λ s. sent (numbered net) part s) < demand_of (numbered net) set =
        sum_below_lt (length net.demands) _ _ i l (rw near (omega (arith, sent_here i near, flows-of i l)))
        (λ s m. elim (cases_Bool (set s)) [
          | inl inside ↦ rw inside (omega (arith, sent_here s inside, flows-of s m))
          | inr outside ↦ rw outside (omega (arith, sent_none s outside))
        ]) in
        omega (
          arith,
          capacity_sent,
          by_key (λ k. slice_index net.sources k) part (length net.demands) (length net.sources) whole.sources_in
              ∙ sum_below_same (length net.demands) _ _ (λ s m. sym (sent_numbers net part s)),
        )
      where
        sent_here : (s : ℕ) → set s ≡ true → sent (numbered net) part s ≡ sent (numbered net) flow s
        sent_here s inside = rw inside at (sent_part s)

        sent_none : (s : ℕ) → set s ≡ false → sent (numbered net) part s ≡ 0
        sent_none s outside = rw outside at (sent_part s)
