use Rattle.std.proofs.Common.{ℕ, ◌<◌, All, slice_index_or}
use Rattle.hsp_instance.specs.RowArcs.{IsWithin}
use Rattle.hsp_prices.specs.Groups.{Group}
use Rattle.hsp_plan_tests.proofs.network_tests.all_lead_within.Given as goal

abbrev pub invariant-loop-group : goal.invariant-loop-group
invariant-loop-group l =
    (k : ℕ) (d : Group) → k < l.group-index → All (IsWithin l.servers) (slice_index_or l.groups k d).arcs
