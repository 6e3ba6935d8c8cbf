use Rattle.std.proofs.Common.{ℕ, ◌<◌, slice_index_or}
use Rattle.hsp_instance.specs.RowArcs.{IsWithin}
use Rattle.hsp_instance.specs.declared.arc.Arc.{Arc}
use Rattle.hsp_plan_tests.proofs.network_tests.lead_within.Given as goal

abbrev pub invariant-loop-arc : goal.invariant-loop-arc
invariant-loop-arc l = (k : ℕ) (d : Arc) → k < l.arc-index → IsWithin l.servers (slice_index_or l.arcs k d)
