use Rattle.std.proofs.Common.{◌≡◌, ◌+◌, ◌<◌, ◌^◌, ℕ, length, slice_index, sum_by, All}
use Rattle.std.specs.List.{zip}
use Rattle.hsp_prices.specs.Sums.{class_load}
use Rattle.hsp_price_check.specs.Passed.{capped}
use Rattle.hsp_price_check.proofs.ClassSums.{brought}
use Rattle.hsp_price_check.proofs.class_costs.add_class.Given as goal

abbrev pub invariant-loop-server : goal.invariant-loop-server
invariant-loop-server l = record {
  there : All (λ at. at < length l.loads) l.server-iterator.a.rest.now;
  small : (j : ℕ) → j < length l.loads → slice_index l.loads j < 2 ^ 128;
  loads : (j : ℕ) → j < length l.loads
      → capped
      (slice_index l.loads j
      + sum_by (brought j) (zip l.server-iterator.a.rest.now l.server-iterator.b.rest.now))
      ≡ capped (slice_index l.initial.loads j + class_load j l.class);
}
