use Rattle.std.proofs.Common.{◌≡◌, ◌<◌, ◌^◌, ◌∙◌, ap, arith, get_or, inr, min}
use Rattle.hsp_price_check.specs.Extras.{pay_by}
use Rattle.hsp_price_check.proofs.LeastPays.{attained_more, no_arc, none_less_more}
use Rattle.hsp_price_check.proofs.least.least_pay.Goals as goal

pub loop-arc-preserved : goal.loop-arc-preserved
loop-arc-preserved c =
    let arcs = c.args.arcs.now in
    let pay = pay_by c.args.extras.now in
    let i = c.loop-arc.arc-index in
    let is : c.min-least.result ≡ min c.loop-arc.least (pay (get_or arcs i no_arc)) =
    c.min-least.ensures ∙ ap (min c.loop-arc.least) c.pay_over.ensures in
    let small : pay (get_or arcs i no_arc) < 2 ^ 64 = omega (arith, c.pay_over.ensures, c.pay_over.type_inv) in
    record {
      none_less =
          none_less_more pay arcs i c.loop-arc.least c.min-least.result no_arc c.loop-arc-test.true is
          c.loop-arc.invariant.none_less;
      attained =
          inr
          (attained_more pay arcs i c.loop-arc.least c.min-least.result no_arc c.loop-arc-test.true is small
          c.loop-arc.invariant.attained);
    }
