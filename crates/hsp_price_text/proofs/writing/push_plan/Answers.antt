use Rattle.hsp_price_text.proofs.Appended.{plan_appended}
use Rattle.hsp_price_text.proofs.writing.push_plan.Goals as goal

pub returns : goal.returns
returns c =
    plan_appended c.args.plan.now c.args.out.now.items _ _ _ _ _ _ c.in_ok-extend_from_slice.ensures.items
    (rw c.cost.ensures.cost at c.in_ok-push_numbered.ensures)
    (rw c.server_prices.ensures at c.in_ok-push_prices.ensures)
    (rw c.host_prices.ensures at c.in_ok-push_prices-2.ensures) (rw c.classes.ensures at c.in_ok-push_classes.ensures)
    c.in_ok-extend_from_slice-2.ensures.items
