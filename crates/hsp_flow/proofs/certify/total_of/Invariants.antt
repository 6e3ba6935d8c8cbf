use Rattle.std.proofs.Common.{◌≡◌, ◌≤◌, ◌*◌, ◌^◌, slice_index}
use Rattle.hsp_network.specs.Sums.{sum_below}
use Rattle.hsp_flow.proofs.certify.total_of.Given as goal

abbrev pub invariant-loop-place : goal.invariant-loop-place
invariant-loop-place l = record {
  so_far : l.total ≡ sum_below l.place (λ k. slice_index l.costs k * slice_index l.flows k);
  small : l.total ≤ l.place * 2 ^ 84;
}
