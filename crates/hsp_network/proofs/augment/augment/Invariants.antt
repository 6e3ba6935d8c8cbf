use Rattle.std.proofs.Common.{◌≡◌, slice_index}
use Rattle.hsp_network.specs.Residual.{Walk, raised}
use Rattle.hsp_network.proofs.augment.augment.Given as goal

abbrev pub invariant-loop-at : goal.invariant-loop-at
invariant-loop-at l =
    Walk l.arcs l.flow l.tree (raised l.fn.flow l.tree) l.root l.amount l.at
    × (l.flow.price.now ≡ l.fn.flow.price.now)
    × (l.flow.excess.now ≡ l.initial.flow.excess.now)

abbrev pub decreases-loop-at : goal.decreases-loop-at
decreases-loop-at l = slice_index l.tree.depth.now l.at
