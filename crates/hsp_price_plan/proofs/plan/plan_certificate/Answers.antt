use Rattle.std.proofs.Common.{◌≡◌, ◌∙◌, arith, sum, List, ℕ, ap, length, refl}
use Rattle.hsp_prices.specs.Solved.{AreClassesBy, cost_of}
use Rattle.hsp_price_check.specs.Extras.{AreExtras, pay_by}
use Rattle.hsp_price_check.specs.Passed.{capped}
use Rattle.hsp_price_plan.specs.PlanOfGroups.{IsPlanFor, IsPlanPast}
use Rattle.hsp_price_plan.proofs.FlowTotals.{flows_together}
use Rattle.hsp_price_plan.proofs.GroupNetwork.{many_flows}
use Rattle.hsp_price_plan.proofs.PlanParts.{is_plan, kept_large, kept_small, none_best, past_cost, plan_by, some_best}
use Rattle.hsp_price_plan.proofs.plan.plan_certificate.Goals as goal

pub flow_cost-cost-requires : goal.flow_cost-cost-requires
flow_cost-cost-requires c =
    ap (λ (flows : List ℕ). length flows) c.deref.ensures.value
    ∙ many_flows c.args.numbers.now c.args.groups.now c.args.flow c.requires.met.many

pub classes_of-requires-clause-many : goal.classes_of-requires-clause-many
classes_of-requires-clause-many c =
    ap (λ (flows : List ℕ). length flows) c.deref-6.ensures.value
    ∙ many_flows c.args.numbers.now c.args.groups.now c.args.flow c.requires.met.many

pub classes_of-requires-clause-room : goal.classes_of-requires-clause-room
classes_of-requires-clause-room c =
    let all =
    flows_together c.args.numbers.now c.args.groups.now c.args.flow c.requires.arcs c.requires.met in
    omega (arith, all, ap (λ (flows : List ℕ). sum flows) c.deref-6.ensures.value)

pub returns-in_default-clause-none : goal.returns-in_default-clause-none
returns-in_default-clause-none c =
    let flow = c.args.flow in
    let groups = c.args.groups.now in
    let extras : AreExtras c.args.numbers.now.server_hosts.items flow.server_prices.items flow.host_prices.items
    c.in_ok-extras.extras.items =
    rw (← c.deref-2.ensures.value, ← c.deref-3.ensures.value, ← c.deref-4.ensures.value) c.in_ok-extras.ensures in
    let classes : AreClassesBy (pay_by c.in_ok-extras.extras.items) groups flow.flows.items
    c.in_ok-classes.classes.items =
    rw (← c.deref-5.ensures.value, ← c.deref-6.ensures.value) c.in_ok-classes.ensures.classes in
    let cost = cost_of groups flow.flows.items in
    let plan = plan_by flow cost c.in_ok-classes.classes.items in
    record {
      plan = plan;
      is =
          is_plan c.args.numbers.now groups flow c.in_ok-extras.extras.items cost c.in_ok-classes.classes.items
          c.requires.met.many extras classes refl;
      order = c.in_ok-classes.ensures.order;
      past =
          past_cost plan
          (kept_large cost c.flow_cost-cost.result
          (c.flow_cost-cost.ensures ∙ ap (λ flows. capped (cost_of groups flows)) c.deref.ensures.value)
          (omega (arith, c.in_default.ensures)));
    }

pub returns-clause-plan : goal.returns-clause-plan
returns-clause-plan c =
    let flow = c.args.flow in
    let groups = c.args.groups.now in
    let extras : AreExtras c.args.numbers.now.server_hosts.items flow.server_prices.items flow.host_prices.items
    c.in_ok-extras.extras.items =
    rw (← c.deref-2.ensures.value, ← c.deref-3.ensures.value, ← c.deref-4.ensures.value) c.in_ok-extras.ensures in
    let classes : AreClassesBy (pay_by c.in_ok-extras.extras.items) groups flow.flows.items
    c.in_ok-classes.classes.items =
    rw (← c.deref-5.ensures.value, ← c.deref-6.ensures.value) c.in_ok-classes.ensures.classes in
    let cost : c.in-Ok.cost ≡ cost_of groups flow.flows.items =
    c.in-Ok.ensures.1
    ∙ kept_small (cost_of groups flow.flows.items) c.flow_cost-cost.result
    (c.flow_cost-cost.ensures ∙ ap (λ flows. capped (cost_of groups flows)) c.deref.ensures.value)
    c.in-Ok.ensures.0 in
    some_best (IsPlanFor c.args.numbers.now groups flow)
    (plan_by flow c.in-Ok.cost c.in_ok-classes.classes.items) c.new.result c.new.ensures
    (is_plan c.args.numbers.now groups flow c.in_ok-extras.extras.items c.in-Ok.cost c.in_ok-classes.classes.items
    c.requires.met.many extras classes cost)

pub returns-clause-none : goal.returns-clause-none
returns-clause-none c =
    let flow = c.args.flow in
    let groups = c.args.groups.now in
    let extras : AreExtras c.args.numbers.now.server_hosts.items flow.server_prices.items flow.host_prices.items
    c.in_ok-extras.extras.items =
    rw (← c.deref-2.ensures.value, ← c.deref-3.ensures.value, ← c.deref-4.ensures.value) c.in_ok-extras.ensures in
    let classes : AreClassesBy (pay_by c.in_ok-extras.extras.items) groups flow.flows.items
    c.in_ok-classes.classes.items =
    rw (← c.deref-5.ensures.value, ← c.deref-6.ensures.value) c.in_ok-classes.ensures.classes in
    let cost : c.in-Ok.cost ≡ cost_of groups flow.flows.items =
    c.in-Ok.ensures.1
    ∙ kept_small (cost_of groups flow.flows.items) c.flow_cost-cost.result
    (c.flow_cost-cost.ensures ∙ ap (λ flows. capped (cost_of groups flows)) c.deref.ensures.value)
    c.in-Ok.ensures.0 in
    none_best (IsPlanPast c.args.numbers.now groups flow)
    (plan_by flow c.in-Ok.cost c.in_ok-classes.classes.items) c.new.result c.new.ensures (λ past.
    record {
      plan = plan_by flow c.in-Ok.cost c.in_ok-classes.classes.items;
      is =
          is_plan c.args.numbers.now groups flow c.in_ok-extras.extras.items c.in-Ok.cost
          c.in_ok-classes.classes.items c.requires.met.many extras classes cost;
      order = c.in_ok-classes.ensures.order;
      past = past;
    })
