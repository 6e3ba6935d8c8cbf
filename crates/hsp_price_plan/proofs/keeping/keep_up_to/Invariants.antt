use Rattle.std.specs.Prelude.{nat_le}
use Rattle.hsp_price_check.specs.Extras.{pay_by}
use Rattle.hsp_price_plan.proofs.KeptArcs.{AreMarked}
use Rattle.hsp_price_plan.proofs.keeping.keep_up_to.Given as goal

abbrev pub invariant-loop-i : goal.invariant-loop-i
invariant-loop-i l =
    AreMarked (λ arc. nat_le (pay_by l.extras arc) l.most) l.shape l.initial.entries l.entries l.i l.kept
