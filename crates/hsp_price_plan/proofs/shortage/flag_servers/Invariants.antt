use Rattle.std.proofs.Common.{◌≡◌, ℕ, ◌==◌, take}
use Rattle.std.specs.Prelude.{◌||◌}
use Rattle.std.specs.List.{list_any}
use Rattle.hsp_transport.specs.Lists.{flag_at}
use Rattle.hsp_instance.specs.declared.arc.Arc.{Arc}
use Rattle.hsp_price_plan.proofs.shortage.flag_servers.Given as goal

-- the servers of the arcs so far
abbrev pub invariant-loop-arc : goal.invariant-loop-arc
invariant-loop-arc l =
    (j : ℕ) → flag_at l.reached j
    ≡ (flag_at l.fn.reached j || list_any (λ (arc : Arc). arc.server == j) (take l.arc-index l.arcs))
