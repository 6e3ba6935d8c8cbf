use Rattle.std.proofs.Common.{◌≡◌, ◌∙◌, eq-eqb, eqb-true}
use Rattle.hsp_check.specs.Plan.{total}
use Rattle.hsp_check.specs.Reach.{network_in}
use Rattle.hsp_check.specs.Uses.{table}
use Rattle.hsp_check.proofs.PlanMet.{cost_is}
use Rattle.hsp_check.proofs.judging.NetworkPlan.meets_cost.Goals as goal

pub returns : goal.returns
returns c =
    let plan = c.args.self in
    let is : c.total_of.result ≡ total (network_in plan.lists) (table plan.uses.now) =
    c.total_of.ensures ∙ cost_is plan.lists plan.cost plan.uses.now plan.prices plan.server_hosts plan.arc_flows in
    rw (c.from.ensures, is) (λ yes. eqb-true _ _ yes, λ same. eq-eqb _ _ same)
