use Rattle.std.proofs.Common.{inl, inr, arith}
use Rattle.hsp_prices.specs.Solved.{flow_to}
use Rattle.hsp_price_plan.proofs.ClassTurns.{all_summed, fits_next}
use Rattle.hsp_price_plan.proofs.SentFlows.{to_within}
use Rattle.hsp_price_plan.proofs.classes.flow_to.Goals as goal

pub overflow_add-sum : goal.overflow_add-sum
overflow_add-sum c =
    let steps = c.in-Some.ensures.steps in
    let next =
    fits_next c.args.server c.loop-arc.sum (flow_to c.args.server (c.args.group.now, c.args.flows.now))
    c.in-Some.arc.now c.in-Some.flow.now c.next.new.self.a.rest.now c.loop-arc.arc-iterator.a.rest.now
    c.next.new.self.b.rest.now c.loop-arc.arc-iterator.b.rest.now steps.0 steps.1 c.loop-arc.invariant
    c.if-arc-server.true in
    omega (arith, next, to_within c.args.server c.args.group.now.arcs c.args.flows.now, c.requires)

pub returns : goal.returns
returns c =
    all_summed c.args.server c.loop-arc.sum (flow_to c.args.server (c.args.group.now, c.args.flows.now))
    c.loop-arc.arc-iterator.a.rest.now c.loop-arc.arc-iterator.b.rest.now
    (elim c.in-None.ensures.steps [ inl (x, (none, same)) ↦ inl none | inr (x, (none, same)) ↦ inr none ])
    c.loop-arc.invariant
