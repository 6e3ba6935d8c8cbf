use Rattle.std.proofs.Common.{◌≡◌, ◌≤◌, ◌*◌, ◌^◌}
use Rattle.hsp_transport.specs.Lists.{hosted_sum}
use Rattle.hsp_check.proofs.shortage.hosted_room.Given as goal

abbrev pub invariant-loop-host : goal.invariant-loop-host
invariant-loop-host l = record {
  sum : l.sum ≡ hosted_sum l.limits l.rooms l.host;
  small : l.sum ≤ l.host * 2 ^ 64;
}
