use Rattle.std.proofs.Common.{◌≡◌, ℕ, ◌<◌, length, take, slice_index_or}
use Rattle.hsp_check.specs.ArcFlows.{flag_at}
use Rattle.hsp_check.specs.Verdict.{is_one_of}
use Rattle.hsp_check.proofs.set_check.flag_rows.Given as goal

abbrev pub invariant-loop-place : goal.invariant-loop-place
invariant-loop-place l = record {
  there : (k d : ℕ) → k < l.place → slice_index_or l.rows k d < length l.flags;
  flags : (i : ℕ) → i < length l.flags → flag_at l.flags i ≡ is_one_of (take l.place l.rows) i;
}
