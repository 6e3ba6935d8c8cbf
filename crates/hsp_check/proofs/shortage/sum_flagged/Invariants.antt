use Rattle.std.proofs.Common.{◌≡◌, ◌≤◌, ◌*◌, ◌^◌}
use Rattle.hsp_transport.specs.Lists.{flagged_sum}
use Rattle.hsp_check.proofs.shortage.sum_flagged.Given as goal

abbrev pub invariant-loop-place : goal.invariant-loop-place
invariant-loop-place l = record {
  sum : l.sum ≡ flagged_sum l.numbers l.flags l.place;
  small : l.sum ≤ l.place * 2 ^ 64;
}
