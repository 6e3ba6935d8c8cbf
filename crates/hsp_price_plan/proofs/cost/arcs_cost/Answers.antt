use Rattle.std.proofs.Common.{◌≡◌, ◌+◌, ◌*◌, ℕ, List, ap₂, inl, inr, subst, sum_by}
use Rattle.hsp_price_check.specs.Passed.{capped}
use Rattle.std.specs.List.{zip}
use Rattle.hsp_instance.specs.declared.arc.Arc.{Arc}
use Rattle.hsp_price_check.proofs.Capping.{term_added}
use Rattle.hsp_price_check.proofs.ClassSums.{all_added}
use Rattle.hsp_price_plan.specs.PlanOfGroups.{arcs_cost}
use Rattle.hsp_price_plan.proofs.cost.arcs_cost.Goals as goal

pub loop-arc-preserved : goal.loop-arc-preserved
loop-arc-preserved c =
    let own : Arc × ℕ = (c.in-Some.arc.now, c.in-Some.flow.now) in
    let term : c.from.result * c.from-in-loop-arc.result ≡ own.0.cost * own.1 =
    ap₂ (λ m n. m * n) c.from.ensures c.from-in-loop-arc.ensures in
    let before =
    subst
    (λ (pairs : List (Arc × ℕ)).
    capped (c.loop-arc.sum + sum_by (λ (own : Arc × ℕ). own.0.cost * own.1) pairs)
    ≡ capped (arcs_cost c.args.arcs.now c.args.flows.now))
    (ap₂ (λ (arcs : List Arc) (flows : List ℕ). zip arcs flows) c.in-Some.ensures.steps.0
    c.in-Some.ensures.steps.1) c.loop-arc.invariant.cost in
    record {
      small = c.saturating_add-sum.type_inv;
      cost =
          rw c.saturating_add-sum.ensures
          (term_added (λ (own : Arc × ℕ). own.0.cost * own.1) own
          (zip c.next.new.self.a.rest.now c.next.new.self.b.rest.now) c.loop-arc.sum
          (c.from.result * c.from-in-loop-arc.result) (arcs_cost c.args.arcs.now c.args.flows.now) term before);
    }

pub returns : goal.returns
returns c =
    all_added (λ (own : Arc × ℕ). own.0.cost * own.1) c.loop-arc.arc-iterator.a.rest.now
    c.loop-arc.arc-iterator.b.rest.now c.loop-arc.sum (arcs_cost c.args.arcs.now c.args.flows.now)
    (elim c.in-None.ensures.steps [ inl (x, (none, same)) ↦ inl none | inr (x, (none, same)) ↦ inr none ])
    c.loop-arc.invariant.small c.loop-arc.invariant.cost
