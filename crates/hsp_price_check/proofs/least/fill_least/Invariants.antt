use Rattle.std.proofs.Common.{◌≡◌, filter, take}
use Rattle.std.specs.Prelude.{◌==◌}
use Rattle.hsp_instance.specs.declared.arc.Arc.{Arc}
use Rattle.hsp_price_check.specs.Extras.{pay_by}
use Rattle.hsp_price_check.proofs.least.fill_least.Given as goal

abbrev pub invariant-loop-arc : goal.invariant-loop-arc
invariant-loop-arc l =
    l.least.items ≡ filter (λ (arc : Arc). pay_by l.extras arc == l.pay) (take l.arc-index l.arcs)
