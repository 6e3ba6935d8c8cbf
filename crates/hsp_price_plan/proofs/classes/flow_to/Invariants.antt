use Rattle.std.proofs.Common.{◌≡◌, ◌+◌, ◌==◌, ℕ, sum_by}
use Rattle.std.specs.Prelude.{if◌then◌else◌}
use Rattle.std.specs.List.{zip}
use Rattle.hsp_instance.specs.declared.arc.Arc.{Arc}
use Rattle.hsp_prices.specs.Solved.{flow_to}
use Rattle.hsp_price_plan.proofs.classes.flow_to.Given as goal

-- the sum so far and what the arcs that are left bring
abbrev pub invariant-loop-arc : goal.invariant-loop-arc
invariant-loop-arc l =
    l.sum
    + sum_by (λ (own : Arc × ℕ). if own.0.server == l.server then own.1 else 0)
    (zip l.arc-iterator.a.rest.now l.arc-iterator.b.rest.now)
    ≡ flow_to l.server (l.group, l.flows)
