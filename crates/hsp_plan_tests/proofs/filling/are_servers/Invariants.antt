use Rattle.std.proofs.Common.{ℕ, ◌<◌, slice_index_or}
use Rattle.hsp_text.specs.declared.limits.TheConstants.{MOST_SERVERS}
use Rattle.hsp_instance.specs.declared.arc.Arc.{Arc}
use Rattle.hsp_plan_tests.proofs.filling.are_servers.Given as goal

abbrev pub invariant-loop-arc : goal.invariant-loop-arc
invariant-loop-arc l =
    (k : ℕ) (d : Arc) → k < l.arc-index → (slice_index_or l.arcs k d).server < MOST_SERVERS
