use Rattle.std.proofs.Common.{◌≡◌, ◌<◌, ℕ, length, slice_index, sum_by, take}
use Rattle.hsp_prices.specs.Sums.{class_load}
use Rattle.hsp_price_check.specs.Passed.{capped}
use Rattle.hsp_price_check.proofs.class_costs.class_loads.Given as goal

abbrev pub invariant-loop-class : goal.invariant-loop-class
invariant-loop-class l = record {
  many : length l.loads.items ≡ l.count;
  each : (j : ℕ) → j < l.count
      → slice_index l.loads.items j ≡ capped (sum_by (class_load j) (take l.class-index l.classes));
}
