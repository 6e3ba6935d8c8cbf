use Rattle.std.proofs.Common.{ℕ, ◌<◌, slice_index_or}
use Rattle.hsp_prices.specs.Groups.{Group}
use Rattle.hsp_price_plan.specs.Solving.{HasFewArcs}
use Rattle.hsp_plan_tests.proofs.network_tests.are_small.Given as goal

abbrev pub invariant-loop-group : goal.invariant-loop-group
invariant-loop-group l = (k : ℕ) (d : Group) → k < l.group-index → HasFewArcs (slice_index_or l.groups k d)
