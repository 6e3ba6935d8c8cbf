use Rattle.std.proofs.Common.{◌≡◌, ◌+◌, ◌-◌, ◌∙◌, List, ℕ, take, take_all, drop, ap, ap₂, sym, length}
use Rattle.hsp_instance.specs.declared.arc.Arc.{Arc}
use Rattle.hsp_prices.specs.Groups.{Group}
use Rattle.hsp_price_check.specs.Passed.{capped}
use Rattle.hsp_price_plan.specs.ClassSums.{sent_of}
use Rattle.hsp_price_plan.specs.PlanOfGroups.{arcs_cost}
use Rattle.hsp_price_plan.proofs.FlowCosts.{cost_by_groups, cost_more, sent_cost}
use Rattle.hsp_price_plan.proofs.SentFlows.{next_begin, next_sent}
use Rattle.hsp_price_plan.proofs.cost.flow_cost.Goals as goal

pub loop-group-preserved : goal.loop-group-preserved
loop-group-preserved c =
    let groups = c.args.groups.now in
    let k = c.loop-group.group-index in
    let flows = c.args.flows.now in
    let group = c.group-item.result in
    let begin = c.loop-group.begin in
    let many : c.len.result ≡ length group.arcs =
    c.len.ensures ∙ c.group.inside.arcs.ok.0 ∙ ap (λ (g : Group). length g.arcs) c.group.view_is in
    let next =
    next_sent groups k group flows begin c.len.result c.loop-group-test.true c.group-item.is
    c.loop-group.invariant.begin many in
    let own_cost : c.arcs_cost.result
    ≡ capped (arcs_cost group.arcs (take (begin + c.len.result - begin) (drop begin flows))) =
    c.arcs_cost.ensures
    ∙ ap (λ (arcs : List Arc). capped (arcs_cost arcs (take (begin + c.len.result - begin) (drop begin flows))))
    (c.deref.ensures.value ∙ ap (λ (g : Group). g.arcs) c.group.view_is) in
    record {
      begin =
          next_begin groups k group flows begin c.len.result c.loop-group-test.true c.group-item.is
          c.loop-group.invariant.begin many;
      cost =
          c.saturating_add-sum.ensures
          ∙ ap₂ (λ m n. capped (m + n)) c.loop-group.invariant.cost own_cost
          ∙ cost_more (sent_of (take k groups) flows)
          (group, take (begin + c.len.result - begin) (drop begin flows))
          ∙ ap (λ (sent : List (Group × List ℕ)). capped (sent_cost sent)) (sym next);
    }

pub returns : goal.returns
returns c =
    c.loop-group.invariant.cost
    ∙ ap (λ (groups : List Group). capped (sent_cost (sent_of groups c.args.flows.now)))
    (take_all c.loop-group.group-index c.args.groups.now c.loop-group-test.false)
    ∙ ap capped (sym (cost_by_groups c.args.groups.now c.args.flows.now))
