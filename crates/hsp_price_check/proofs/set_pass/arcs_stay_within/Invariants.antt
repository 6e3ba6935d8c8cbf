use Rattle.std.proofs.Common.{◌≡◌, drop}
use Rattle.std.specs.List.{list_all}
use Rattle.hsp_instance.specs.declared.arc.Arc.{Arc}
use Rattle.hsp_check.specs.ArcFlows.{flag_at}
use Rattle.hsp_price_check.proofs.set_pass.arcs_stay_within.Given as goal

abbrev pub invariant-loop-arc : goal.invariant-loop-arc
invariant-loop-arc l =
    list_all (λ (arc : Arc). flag_at l.flags arc.server) (drop l.arc-index l.arcs)
    ≡ list_all (λ (arc : Arc). flag_at l.flags arc.server) l.arcs
