use Rattle.std.proofs.Common.{◌≡◌, ℕ, ◌<◌, ◌≤◌, length, slice_index, if◌then◌else◌}
use Rattle.hsp_check.specs.ArcFlows.{flag_at}
use Rattle.hsp_check.proofs.shortage.set_rooms.Given as goal

abbrev pub invariant-loop-server : goal.invariant-loop-server
invariant-loop-server l = record {
  done : (j : ℕ) → j < l.server
      → slice_index l.rooms j ≡ (if flag_at l.reached j then slice_index l.capacities j else 0);
  left : (j : ℕ) → l.server ≤ j → j < length l.rooms → slice_index l.rooms j ≡ 0;
}
