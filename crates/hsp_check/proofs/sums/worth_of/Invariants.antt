use Rattle.std.proofs.Common.{◌≡◌, ◌≤◌, ◌*◌, ◌^◌, slice_index}
use Rattle.hsp_transport.specs.Sums.{sum_below}
use Rattle.hsp_check.proofs.sums.worth_of.Given as goal

abbrev pub invariant-loop-place : goal.invariant-loop-place
invariant-loop-place l = record {
  so_far : l.sum ≡ sum_below l.place (λ k. slice_index l.numbers k * slice_index l.prices k);
  small : l.sum ≤ l.place * 2 ^ 104;
}
