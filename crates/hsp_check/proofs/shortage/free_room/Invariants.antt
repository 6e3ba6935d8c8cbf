use Rattle.std.proofs.Common.{◌≡◌, ◌≤◌, ◌*◌, ◌^◌}
use Rattle.hsp_transport.specs.Lists.{free_sum}
use Rattle.hsp_check.proofs.shortage.free_room.Given as goal

abbrev pub invariant-loop-server : goal.invariant-loop-server
invariant-loop-server l = record {
  sum : l.sum ≡ free_sum l.server_hosts l.rooms l.server;
  small : l.sum ≤ l.server * 2 ^ 64;
}
