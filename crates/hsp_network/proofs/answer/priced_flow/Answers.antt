use Rattle.std.proofs.Common.{◌≡◌, ℕ, ◌+◌, ◌-◌, ◌*◌, ◌<◌, length, slice_index, ap, ◌∙◌, arith, mul-le-mul_left}
use Rattle.hsp_network.specs.Layout.{base_of, first_of, hosts_of, servers_of, host_node}
use Rattle.hsp_network.specs.Answer.{HasLengths}
use Rattle.hsp_network.specs.Network.{host_of}
use Rattle.hsp_network.specs.Problem.{problem_of}
use Rattle.hsp_network.proofs.Modelling.{feasible, has_prices, low_prices}
use Rattle.hsp_network.proofs.answer.priced_flow.Goals as goal

pub returns : goal.returns
returns c =
    let whole = c.args.network.now.ends in
    let arcs = c.requires.arcs_of.lists in
    let many = arcs.tails.many in
    let nodes = arcs.supplies.many in
    let scale = c.args.arcs.now.scale in
    let flow-is : (k : ℕ) → k < length c.args.network.now.sources.now →
    slice_index c.in_ok-copy_range.field-0.items k
    ≡ slice_index c.args.flow.now.flows.now (base_of (problem_of c.args.network.now) + k) =
    λ k l. c.in_ok-copy_range.ensures.each k (omega (arith, c.requires.ready.sound.flows_many)) in
    let u-is : (i : ℕ) → i < length c.args.network.now.demands.now →
    slice_index c.in_ok-copy_range-2.field-0.items i
    ≡ slice_index c.args.flow.now.price.now (first_of (problem_of c.args.network.now) + i) = λ i l.
    let e : length c.args.network.now.limits.now + length c.args.network.now.capacities.now + 1 + i
    ≡ first_of (problem_of c.args.network.now) + i = omega arith in
    c.in_ok-copy_range-2.ensures.each i (omega (arith, c.requires.ready.price_many))
    ∙ ap (λ n. slice_index c.args.flow.now.price.now n) e in
    let p-is : (j : ℕ) → j < servers_of (problem_of c.args.network.now) →
    slice_index c.in_ok-price_drops.field-0.items j
    ≡ slice_index c.args.flow.now.price.now (1 + hosts_of (problem_of c.args.network.now) + j) - slice_index
    c.args.flow.now.price.now (host_node (host_of (problem_of c.args.network.now) j)) = λ j l.
    let e : slice_index c.args.arcs.now.tails.now (length c.args.network.now.limits.now + j)
    ≡ 1 + hosts_of (problem_of c.args.network.now) + j =
    omega (arith, arcs.tails.node (length c.args.network.now.limits.now + j) (omega arith)) in
    let t : slice_index c.args.flow.now.price.now
    (slice_index c.args.arcs.now.tails.now (length c.args.network.now.limits.now + j))
    ≡ slice_index c.args.flow.now.price.now (1 + hosts_of (problem_of c.args.network.now) + j) =
    ap (λ n. slice_index c.args.flow.now.price.now n) e in
    let h : slice_index c.args.flow.now.price.now
    (slice_index c.args.arcs.now.heads.now (length c.args.network.now.limits.now + j))
    ≡ slice_index c.args.flow.now.price.now (host_node (host_of (problem_of c.args.network.now) j)) =
    ap (λ n. slice_index c.args.flow.now.price.now n) (arcs.heads.server j l) in
    omega (arith, c.in_ok-price_drops.ensures.each j (omega arith)) in
    let q-is : (h : ℕ) → h < hosts_of (problem_of c.args.network.now)
    → slice_index c.in_ok-copy_range-3.field-0.items h ≡ slice_index c.args.flow.now.price.now (1 + h) =
    λ h l. c.in_ok-copy_range-3.ensures.each h (omega arith) in
    let copies : HasLengths (problem_of c.args.network.now) (record {
      flows = c.in_ok-copy_range.field-0;
      source_prices = c.in_ok-copy_range-2.field-0;
      server_prices = c.in_ok-price_drops.field-0;
      host_prices = c.in_ok-copy_range-3.field-0;
    }) = record {
      flows = omega (arith, c.in_ok-copy_range.ensures.many, c.requires.ready.sound.flows_many);
      sources = omega (arith, c.in_ok-copy_range-2.ensures.many, c.requires.ready.price_many);
      servers = omega (arith, c.in_ok-price_drops.ensures.many);
      hosts = omega (arith, c.in_ok-copy_range-3.ensures.many);
    } in
    record {
      many = copies;
      balanced = record {
        feasible =
            feasible (problem_of c.args.network.now) whole c.requires.small _ _ arcs c.requires.ready.sound
            (λ k. slice_index c.in_ok-copy_range.field-0.items k) flow-is
            (λ i l.
            c.requires.met (first_of (problem_of c.args.network.now) + i) (omega (arith, c.requires.arcs_of.first))
            (omega arith));
        prices =
            has_prices (problem_of c.args.network.now) whole c.requires.small _ _ arcs c.requires.ready.sound
            (λ k. slice_index c.in_ok-copy_range.field-0.items k) flow-is
            _ _ _ copies.sources copies.servers copies.hosts u-is p-is q-is;
      };
      low =
          λ greatest_cost bound.
          low_prices (problem_of c.args.network.now) whole c.requires.small _ _ arcs c.requires.ready.sound
          (λ k. slice_index c.in_ok-copy_range.field-0.items k) flow-is
          _ _ _ copies.sources copies.servers copies.hosts u-is p-is q-is _
          (λ v l.
          let e : length c.args.arcs.now.supplies.now
          ≡ length c.args.network.now.demands.now + length c.args.network.now.capacities.now
          + length c.args.network.now.limits.now + 1 = omega arith in
          let s : length c.args.arcs.now.supplies.now * greatest_cost
          ≡ (length c.args.network.now.demands.now + length c.args.network.now.capacities.now
          + length c.args.network.now.limits.now + 1) * greatest_cost = ap (λ n. n * greatest_cost) e in
          omega (
            arith,
            c.requires.ready.low v l,
            scale.limit_is,
            mul-le-mul_left (length c.args.arcs.now.supplies.now) (c.requires.arcs_of.least greatest_cost bound),
          ));
    }
