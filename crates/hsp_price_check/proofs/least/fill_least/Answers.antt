use Rattle.std.proofs.Common.{◌∙◌, ap, filter, take_all}
use Rattle.std.specs.Prelude.{◌==◌}
use Rattle.hsp_instance.specs.declared.arc.Arc.{Arc}
use Rattle.hsp_price_check.specs.Extras.{pay_by}
use Rattle.hsp_price_check.proofs.LeastPays.{least_kept}
use Rattle.hsp_price_check.proofs.least.fill_least.Goals as goal

pub returns : goal.returns
returns c =
    let pay = pay_by c.args.extras.now in
    c.loop-arc.invariant
    ∙ ap (filter (λ (arc : Arc). pay arc == c.least_pay-pay.result))
    (take_all c.loop-arc.arc-index c.args.arcs.now c.loop-arc-test.false)
    ∙ least_kept pay c.args.arcs.now c.least_pay-pay.result c.least_pay-pay.ensures.none_less
    c.least_pay-pay.ensures.attained
