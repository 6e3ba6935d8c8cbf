use Rattle.std.proofs.Common.{◌≡◌, ◌-◌, ◌^◌, drop}
use Rattle.hsp_price_check.specs.Extras.{pay_by}
use Rattle.hsp_price_plan.specs.Entries.{bare_arcs}
use Rattle.hsp_price_plan.specs.Keeping.{least_from}
use Rattle.hsp_price_plan.proofs.keeping.least_pay.Given as goal

abbrev pub invariant-loop-i : goal.invariant-loop-i
invariant-loop-i l =
    least_from (pay_by l.extras) l.least (drop l.i (bare_arcs l.shape l.entries))
    ≡ least_from (pay_by l.extras) (2 ^ 64 - 1) (bare_arcs l.shape l.entries)
