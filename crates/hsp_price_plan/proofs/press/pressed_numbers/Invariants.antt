use Rattle.std.proofs.Common.{◌≡◌, ◌*◌, ◌++◌, ◌≤◌, drop}
use Rattle.hsp_price_plan.specs.Pressing.{pressed_from}
use Rattle.hsp_price_plan.proofs.press.pressed_numbers.Given as goal

-- what the numbers so far are pressed to, and what the rest will be
abbrev pub invariant-loop-number : goal.invariant-loop-number
invariant-loop-number l = record {
  low : l.low ≤ l.number-index * 1000001;
  pressed : l.pressed.items ++ pressed_from l.last l.low (drop l.number-index l.numbers)
      ≡ pressed_from 0 0 l.numbers;
}
