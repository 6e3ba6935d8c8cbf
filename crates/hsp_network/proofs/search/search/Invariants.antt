use Rattle.std.proofs.Common.{◌≡◌}
use Rattle.hsp_network.specs.Search.{Running, Spread}
use Rattle.hsp_network.proofs.search.search.Given as goal

abbrev pub invariant-loop-turn : goal.invariant-loop-turn
invariant-loop-turn g l =
    Running l.arcs l.flow l.progress.tree (g.F.Frontier.held l.frontier) l.root l.turn
    × (g.F.Frontier.node_count l.frontier ≡ g.F.Frontier.node_count l.fn.frontier)
    × Spread l.arcs l.flow l.progress.tree l.root l.turn
