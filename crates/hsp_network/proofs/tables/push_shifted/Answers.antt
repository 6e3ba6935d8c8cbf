use Rattle.std.proofs.Common.{refl}
use Rattle.hsp_network.proofs.Appending.{appends_none, appends_one}
use Rattle.hsp_network.proofs.tables.push_shifted.Goals as goal

pub loop-number-init : goal.loop-number-init
loop-number-init c = appends_none _ _

pub loop-number-preserved : goal.loop-number-preserved
loop-number-preserved c = appends_one _ _ _ _ _ _ c.loop-number.invariant c.in_ok-push.ensures.items refl
