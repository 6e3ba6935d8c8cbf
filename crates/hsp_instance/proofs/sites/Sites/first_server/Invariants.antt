use Rattle.std.proofs.Common.{◌≡◌, ◌≤◌, take}
use Rattle.hsp_text.specs.declared.limits.TheConstants.{MOST_SERVERS}
use Rattle.hsp_instance.specs.Instance.{servers_of}
use Rattle.hsp_instance.proofs.sites.Sites.first_server.Given as goal

abbrev pub invariant-loop-number : goal.invariant-loop-number
invariant-loop-number l = record {
  first : l.first ≡ servers_of (take l.number l.self);
  within : l.first ≤ MOST_SERVERS;
}
