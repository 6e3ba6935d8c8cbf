use Rattle.std.proofs.Common.{◌≡◌, ◌-◌, ◌<◌, ◌≤◌, length, slice_index}
use Rattle.hsp_network.specs.Residual.{ends}
use Rattle.hsp_network.specs.Search.{Expanding, Widens}
use Rattle.hsp_network.proofs.Listing.{Seen}
use Rattle.hsp_network.proofs.expand.offer_ways.Given as goal

abbrev pub invariant-loop-last : goal.invariant-loop-last
invariant-loop-last g l =
    Expanding l.arcs l.flow l.tree (g.F.Frontier.held l.frontier) l.ways.at (Seen l.ways.along l.last)
    × (g.F.Frontier.node_count l.frontier ≡ g.F.Frontier.node_count l.fn.frontier)
    × Widens l.arcs l.flow l.fn.tree l.tree l.ways
    × (l.last ≤ length (ends l.arcs l.ways.along))
    × (0 < l.last → slice_index (ends l.arcs l.ways.along) (l.last - 1) ≡ l.ways.at.node)

abbrev pub decreases-loop-last : goal.decreases-loop-last
decreases-loop-last g l = l.last
