use Rattle.std.proofs.Common.{◌≡◌, ℕ, ◌<◌, ◌≤◌, slice_index}
use Rattle.hsp_check.specs.Index.{arc_at}
use Rattle.hsp_check.proofs.arc_flows.place_of.Given as goal

abbrev pub invariant-loop-place : goal.invariant-loop-place
invariant-loop-place l = (k : ℕ) → slice_index l.runs l.row ≤ k → k < l.place → (arc_at l.arc_flows k).site ≡ l.site → ⊥
