use Rattle.std.specs.Prelude.{not}
use Rattle.hsp_transport.specs.Lists.{flag_at}
use Rattle.hsp_price_plan.proofs.KeptArcs.{AreMarked}
use Rattle.hsp_price_plan.proofs.keeping.keep_outside.Given as goal

abbrev pub invariant-loop-i : goal.invariant-loop-i
invariant-loop-i l =
    AreMarked (λ arc. not (flag_at l.set arc.server)) l.shape l.initial.entries l.entries l.i l.kept
