use Rattle.std.proofs.Common.{◌≡◌, ◌≤◌, ◌*◌, ◌^◌}
use Rattle.hsp_network.specs.Reached.{free_sum}
use Rattle.hsp_network.proofs.accept_set.free_room.Given as goal

abbrev pub invariant-loop-server : goal.invariant-loop-server
invariant-loop-server l = record {
  sum : l.sum ≡ free_sum l.hosts l.rooms l.server;
  small : l.sum ≤ l.server * 2 ^ 64;
}
