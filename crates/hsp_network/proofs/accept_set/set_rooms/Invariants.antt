use Rattle.std.proofs.Common.{◌≡◌, ℕ, ◌<◌, ◌≤◌, false, length, slice_index, slice_index_or, if◌then◌else◌}
use Rattle.hsp_network.proofs.accept_set.set_rooms.Given as goal

abbrev pub invariant-loop-server : goal.invariant-loop-server
invariant-loop-server l = record {
  done : (j : ℕ) → j < l.server
      → slice_index l.rooms j ≡ (if slice_index_or l.reached j false then slice_index l.capacities j else 0);
  left : (j : ℕ) → l.server ≤ j → j < length l.rooms → slice_index l.rooms j ≡ 0;
}
