use Rattle.hsp_check.proofs.PlanMet.{low_met}
use Rattle.hsp_check.proofs.judging.NetworkPlan.meets_arc_prices.Goals as goal

pub returns : goal.returns
returns c =
    let plan = c.args.self in
    let met = low_met plan.lists plan.cost plan.uses.now plan.prices plan.server_hosts plan.arc_flows in
    (λ yes. met.0 (c.are_low.ensures.0 yes), λ holds. c.are_low.ensures.1 (met.1 holds))
