use Rattle.hsp_check.proofs.PlanMet.{tight_met}
use Rattle.hsp_check.proofs.judging.NetworkPlan.meets_used_prices.Goals as goal

pub returns : goal.returns
returns c =
    let plan = c.args.self in
    let met = tight_met plan.lists plan.cost plan.uses.now plan.prices plan.server_hosts plan.arc_flows in
    (λ yes. met.0 (c.are_tight.ensures.0 yes), λ holds. c.are_tight.ensures.1 (met.1 holds))
