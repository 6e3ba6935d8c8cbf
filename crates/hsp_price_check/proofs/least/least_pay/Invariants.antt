use Rattle.std.proofs.Common.{◌≡◌, ◌≤◌, ◌⊎◌, ◌^◌, ◌-◌, take, true}
use Rattle.std.specs.Prelude.{◌==◌}
use Rattle.std.specs.List.{AllByRecursion, list_any}
use Rattle.hsp_instance.specs.declared.arc.Arc.{Arc}
use Rattle.hsp_price_check.specs.Extras.{pay_by}
use Rattle.hsp_price_check.proofs.least.least_pay.Given as goal

abbrev pub invariant-loop-arc : goal.invariant-loop-arc
invariant-loop-arc l = record {
  none_less : AllByRecursion (λ (arc : Arc). l.least ≤ pay_by l.extras arc) (take l.arc-index l.arcs);
  attained : ((l.arc-index ≡ 0) × (l.least ≡ 2 ^ 64 - 1))
      ⊎ (list_any (λ (arc : Arc). pay_by l.extras arc == l.least) (take l.arc-index l.arcs) ≡ true);
}
