use Rattle.std.proofs.Common.{◌≡◌, ◌+◌, ◌*◌, ◌<◌, ◌^◌, ℕ, sum_by}
use Rattle.std.specs.List.{zip}
use Rattle.hsp_instance.specs.declared.arc.Arc.{Arc}
use Rattle.hsp_price_check.specs.Passed.{capped}
use Rattle.hsp_price_plan.specs.PlanOfGroups.{arcs_cost}
use Rattle.hsp_price_plan.proofs.cost.arcs_cost.Given as goal

-- the sum so far and what the arcs that are left cost
abbrev pub invariant-loop-arc : goal.invariant-loop-arc
invariant-loop-arc l = record {
  small : l.sum < 2 ^ 128;
  cost : capped
      (l.sum
      + sum_by (λ (own : Arc × ℕ). own.0.cost * own.1)
      (zip l.arc-iterator.a.rest.now l.arc-iterator.b.rest.now))
      ≡ capped (arcs_cost l.arcs l.flows);
}
