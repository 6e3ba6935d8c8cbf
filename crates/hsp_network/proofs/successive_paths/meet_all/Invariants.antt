use Rattle.std.proofs.Common.{◌≡◌, ℕ, ◌<◌, ◌≤◌, slice_index}
use Rattle.hsp_network.specs.Search.{Blank, Ready}
use Rattle.hsp_network.proofs.successive_paths.meet_all.Given as goal

abbrev pub invariant-loop-root : goal.invariant-loop-root
invariant-loop-root g l =
    Ready l.arcs l.flow × Blank l.arcs l.progress.tree
    × ((v : ℕ) → l.arcs.first ≤ v → v < l.root → slice_index l.flow.excess.now v ≡ 0)
    × (g.F.Frontier.node_count l.frontier ≡ g.F.Frontier.node_count l.fn.frontier)
