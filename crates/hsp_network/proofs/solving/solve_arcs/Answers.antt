use Rattle.std.proofs.Common.{◌≡◌, ◌+◌, ◌*◌, ◌<◌, length, refl, arith, add-mul, one-mul}
use Rattle.hsp_network.specs.Problem.{problem_of}
use Rattle.hsp_network.proofs.Building.{costs_fit, graph_of, scale_of}
use Rattle.hsp_network.proofs.solving.solve_arcs.Goals as goal

pub chain_arcs-requires-clause-inside : goal.chain_arcs-requires-clause-inside
chain_arcs-requires-clause-inside g c =
    (graph_of (problem_of c.args.network.now) c.args.network.now.ends c.requires.small _ _ _ _ _
    c.requires.arcs_of).tails_in

pub chain_arcs-requires-2-clause-inside : goal.chain_arcs-requires-2-clause-inside
chain_arcs-requires-2-clause-inside g c = λ k l.
    let graph =
    graph_of (problem_of c.args.network.now) c.args.network.now.ends c.requires.small _ _ _ _ _
    c.requires.arcs_of in
    let in' : k < length c.args.lists.tails.now = omega (arith, graph.heads_many) in
    omega (arith, graph.tails_in k in', graph.down k in')

pub invariant_of-arcs-clause-graph : goal.invariant_of-arcs-clause-graph
invariant_of-arcs-clause-graph g c =
    graph_of (problem_of c.args.network.now) c.args.network.now.ends c.requires.small _ _ _ _ _ c.requires.arcs_of

pub invariant_of-arcs-clause-scale : goal.invariant_of-arcs-clause-scale
invariant_of-arcs-clause-scale g c =
    let whole = c.args.network.now.ends in
    let fit =
    costs_fit (problem_of c.args.network.now) (length c.args.lists.supplies.now) c.greatest-greatest_cost.result
    c.requires.small c.requires.arcs_of.supplies.many whole.costs_many c.greatest-greatest_cost.ensures.attained in
    scale_of (problem_of c.args.network.now) whole c.requires.small _ _ _ _ _ c.requires.arcs_of _ _ _
    (λ k l. c.greatest-greatest_cost.ensures.bound k (omega (arith, whole.costs_many))) refl refl
    (omega (
      arith,
      fit,
      add-mul (length c.args.lists.supplies.now) 1 c.greatest-greatest_cost.result,
      one-mul c.greatest-greatest_cost.result,
    ))
