use Rattle.std.proofs.Common.{◌≡◌, ◌≢◌, ℕ, slice_index}
use Rattle.hsp_network.specs.Search.{Blank, Ready}
use Rattle.hsp_network.proofs.successive_paths.meet_source.Given as goal

abbrev pub invariant-loop-flow : goal.invariant-loop-flow
invariant-loop-flow g l =
    Ready l.arcs l.flow × Blank l.arcs l.progress.tree
    × ((v : ℕ) → v ≢ l.root → slice_index l.flow.excess.now v ≡ slice_index l.fn.flow.excess.now v)
    × (g.F.Frontier.node_count l.frontier ≡ g.F.Frontier.node_count l.fn.frontier)

abbrev pub decreases-loop-flow : goal.decreases-loop-flow
decreases-loop-flow g l = slice_index l.flow.excess.now l.root
