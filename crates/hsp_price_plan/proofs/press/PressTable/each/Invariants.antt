use Rattle.std.proofs.Common.{◌≡◌, ◌<◌, ℕ, length, slice_index}
use Rattle.hsp_price_plan.specs.Pressing.{IsPressed}
use Rattle.hsp_price_plan.proofs.press.PressTable.each.Given as goal

abbrev pub invariant-loop-place : goal.invariant-loop-place
invariant-loop-place l = record {
  many : length l.pressed.items ≡ l.place;
  each : (j : ℕ) → j < l.place
      → IsPressed l.self.numbers.items (slice_index l.numbers j) (slice_index l.pressed.items j);
}
