use Rattle.std.proofs.Common.{◌≡◌, ℕ, ◌<◌, ◌≤◌, ◌*◌, ◌^◌, ◌==◌, length, slice_index, take, sum_by, if◌then◌else◌}
use Rattle.hsp_check.specs.ArcFlows.{end_of}
use Rattle.hsp_check.proofs.sums.add_each.Given as goal

abbrev pub invariant-loop-place : goal.invariant-loop-place
invariant-loop-place l = record {
  sums : (v : ℕ) → v < length l.sums
      → slice_index l.sums v
      ≡ sum_by (λ a. if end_of l.fn.end a.arc == v then a.flow else 0) (take l.place l.arc_flows);
  small : (v : ℕ) → v < length l.sums → slice_index l.sums v ≤ l.place * 2 ^ 64;
}
