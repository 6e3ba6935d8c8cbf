use Rattle.std.proofs.Common.{◌≡◌, ◌<◌, length, slice_index, ◌∙◌, ap, arith}
use Rattle.hsp_network.proofs.Appending.{same_number}
use Rattle.hsp_network.proofs.Starting.{sound_start, first_low, first_sink, first_limit}
use Rattle.hsp_network.specs.InitialPotentials.{AreInitialPotentials}
use Rattle.hsp_network.proofs.solving.solve_from_none.Goals as goal

pub solve_from-requires-clause-ready : goal.solve_from-requires-clause-ready
solve_from-requires-clause-ready g c =
    let graph = c.args.arcs.now.graph in
    let flows =
    same_number (length c.args.arcs.now.tails.now) 0 c.deref_mut.result.now
    (c.deref_mut.ensures.value ∙ c.in_ok-flows.ensures.items_if_clones_equal (λ y same. same)) in
    let residual_capacity : c.deref_mut-2.result.now ≡ c.args.arcs.now.capacities.now =
    c.deref_mut-2.ensures.value ∙ c.in_ok-residual_capacity.ensures.items_if_clones_equal (λ x y same. same) in
    let excess : c.deref_mut-4.result.now ≡ c.args.arcs.now.supplies.now =
    c.deref_mut-4.ensures.value ∙ c.in_ok-excess.ensures.items_if_clones_equal (λ x y same. same) in
    let prices : AreInitialPotentials (length c.args.arcs.now.supplies.now) c.args.arcs.now.tails.now
    c.args.arcs.now.costs.now c.deref_mut-3.result.now =
    rw c.deref_mut-3.ensures.value c.in_ok-price.ensures in
    let some : 0 < length c.args.arcs.now.supplies.now = omega (arith, c.requires.arcs_of.lists.supplies.many) in
    record {
      sound = sound_start _ _ flows.0
          (ap (λ xs. length xs) residual_capacity ∙ graph.capacities_many) (ap (λ xs. length xs) excess) flows.1
          (λ k l. ap (λ xs. slice_index xs k) residual_capacity)
          (first_low c.args.arcs.now _ prices) (first_sink c.args.arcs.now _ prices some)
          (λ v l. ap (λ xs. slice_index xs v) excess);
      price_many = prices.many;
      low = first_limit c.args.arcs.now _ prices;
    }
