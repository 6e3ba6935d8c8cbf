use Rattle.std.proofs.Common.{◌≡◌, ℕ, ◌<◌, ◌≤◌, ◌*◌, ◌^◌, length, slice_index}
use Rattle.hsp_network.specs.Sums.{hosted}
use Rattle.hsp_network.proofs.accept_set.add_rooms.Given as goal

abbrev pub invariant-loop-server : goal.invariant-loop-server
invariant-loop-server l = record {
  sums : (h : ℕ) → h < length l.sums → slice_index l.sums h ≡ hosted l.hosts l.rooms l.server h;
  small : (h : ℕ) → h < length l.sums → slice_index l.sums h ≤ l.server * 2 ^ 64;
}
