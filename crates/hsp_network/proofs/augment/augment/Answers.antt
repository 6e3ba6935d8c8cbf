use Rattle.std.proofs.Common.{◌∙◌}
use Rattle.hsp_network.proofs.Walking.{step_fits, step_arc, stepped}
use Rattle.hsp_network.proofs.augment.augment.Goals as goal

pub push-requires-clause-balanced : goal.push-requires-clause-balanced
push-requires-clause-balanced c =
    let walk = c.loop-at.invariant.0 in
    walk.balanced _ (step_arc _ _ _ _ _ _ _ _ c.requires.tree walk c.loop-at-test.true)

pub push-requires-clause-fits : goal.push-requires-clause-fits
push-requires-clause-fits c = step_fits _ _ _ _ _ _ _ _ c.requires.tree c.loop-at.invariant.0 c.loop-at-test.true

pub loop-at-preserved : goal.loop-at-preserved
loop-at-preserved c = (
  rw c.arc_tail-at.ensures
      (stepped _ _ _ _ _ _ _ _ c.requires.tree c.loop-at.invariant.0 c.loop-at-test.true _ c.push.ensures),
  c.push.ensures.price ∙ c.loop-at.invariant.1,
  c.push.ensures.excess ∙ c.loop-at.invariant.2,
)
