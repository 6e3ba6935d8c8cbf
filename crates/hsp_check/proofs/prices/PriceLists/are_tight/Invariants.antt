use Rattle.std.proofs.Common.{◌≡◌, ℕ, ◌+◌, ◌<◌, slice_index, slice_index_or}
use Rattle.hsp_check.specs.declared.sums.ArcFlow.{ArcFlow}
use Rattle.hsp_check.specs.Listed.{listed_at}
use Rattle.hsp_check.proofs.prices.PriceLists.are_tight.Given as goal

abbrev pub invariant-loop-place : goal.invariant-loop-place
invariant-loop-place l = (k : ℕ) (d : ArcFlow) → k < l.place → 0 < (slice_index_or l.arc_flows k d).flow →
    slice_index l.self.rows.now (slice_index_or l.arc_flows k d).arc.row
    ≡ (slice_index_or l.arc_flows k d).arc.cost + listed_at l.self (slice_index_or l.arc_flows k d).arc.server
