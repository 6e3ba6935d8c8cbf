use Rattle.std.proofs.Common.{refl, arith}
use Rattle.hsp_network.proofs.Walking.{sent}
use Rattle.hsp_network.proofs.push.push.Goals as goal
use Rattle.hsp_network.proofs.push.push.Goals.{then-along, else-along}

pub returns : goal.returns
returns c =
    sent _ _ _ _ _ _ (omega (arith, c.requires.flows_many, c.requires.arc_there))
    (omega (arith, c.requires.residual_many, c.requires.arc_there)) c.requires.balanced refl refl refl refl
    _ c.requires.fits (elim c.if-along.branch [
      | then-along w ↦ rw (w.left-is, w.if-along.true) refl
      | else-along w ↦ rw (w.left-is, w.if-along.false) refl
    ])
